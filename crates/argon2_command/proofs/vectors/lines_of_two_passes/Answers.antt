use Rattle.std.proofs.Common.{refl}
use Rattle.std.specs.Fmt.{digits}
use Rattle.base64.specs.Rfc4648.{encode_symbols}
use Rattle.hex.specs.Hex.{encode_with}
use Rattle.argon_text.specs.EncodedText.{base64_text, text_of_fields}
use Rattle.argon2_command.proofs.vectors.lines_of_two_passes.Goals as goal

pub returns : goal.returns
unfolding base64_text digits encode_symbols encode_with text_of_fields
returns c = record { encoded = refl; hexadecimal = refl }
