use Rattle.std.proofs.Common.{refl}
use Rattle.std.specs.Fmt.{digits}
use Rattle.base64.specs.Rfc4648.{encode_symbols}
use Rattle.argon_text.specs.EncodedText.{base64_text, text_of_fields}
use Rattle.pikhsen_c.proofs.vectors.texts_with_a_tag_of_zeros.Goals as goal

pub returns : goal.returns
unfolding base64_text digits encode_symbols text_of_fields
returns c = record {
  text = refl;
  room = refl;
  keyed_room = refl;
  keyed_memory = refl;
  keyed_secret = refl;
  keyed_associated = refl;
}
