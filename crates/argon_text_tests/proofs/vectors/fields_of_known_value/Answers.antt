use Rattle.std.proofs.Common.{refl}
use Rattle.std.specs.Fmt.{digits}
use Rattle.base64.specs.Rfc4648.{encode_symbols}
use Rattle.argon_text.specs.EncodedText.{base64_text}
use Rattle.argon_text_tests.proofs.vectors.fields_of_known_value.Goals as goal

pub returns : goal.returns
unfolding base64_text digits encode_symbols
returns c = record { fields = refl; numbers = refl }
