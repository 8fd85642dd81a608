use Rattle.std.proofs.Common.{refl}
use Rattle.std.specs.Fmt.{digits}
use Rattle.base64.specs.Rfc4648.{encode_symbols}
use Rattle.argon_text.specs.Base64.{base64_bytes, is_base64, symbol_value}
use Rattle.argon_text.specs.EncodedText.{base64_text, text_of_fields}
use Rattle.argon_text_tests.proofs.vectors.texts_of_old_value.Goals as goal

pub returns : goal.returns
unfolding base64_text digits encode_symbols text_of_fields is_base64 base64_bytes symbol_value
returns c = record {
  whole = refl;
  short = refl;
  fields = record {
    text = refl;
    numbers = record { version = tt; memory = refl; passes = refl; lanes = refl };
    salt = refl;
    tag = refl;
  };
  value = refl;
}
