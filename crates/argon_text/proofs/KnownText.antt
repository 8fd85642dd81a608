-- The definition of the text, run on what the reference program gives.
use Rattle.std.proofs.Common.{◌≡◌, refl}
use Rattle.std.specs.Fmt.{digits}
use Rattle.base64.specs.Rfc4648.{encode_symbols}
use Rattle.argon_text.specs.EncodedText.{base64_text, encoded_text, text_of_fields}
use Rattle.argon_text.specs.Vectors.{sample_encoded_text, sample_encoded_value}

pub text_of_known_value : encoded_text sample_encoded_value ≡ sample_encoded_text
unfolding base64_text digits encode_symbols text_of_fields
text_of_known_value = refl
