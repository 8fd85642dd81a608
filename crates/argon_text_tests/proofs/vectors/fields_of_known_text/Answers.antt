use Rattle.std.proofs.Common.{refl}
use Rattle.argon_text.specs.Base64.{base64_bytes, is_base64, symbol_value}
use Rattle.argon_text.specs.EncodedText.{text_of_fields}
use Rattle.argon_text_tests.proofs.vectors.fields_of_known_text.Goals as goal

pub returns : goal.returns
unfolding text_of_fields is_base64 base64_bytes symbol_value
returns c = record {
  fields = record {
    text = refl;
    numbers = record { version = refl; memory = refl; passes = refl; lanes = refl };
    salt = refl;
    tag = refl;
  };
  value = refl;
}
