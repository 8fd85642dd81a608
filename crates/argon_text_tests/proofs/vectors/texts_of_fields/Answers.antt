use Rattle.std.proofs.Common.{refl}
use Rattle.argon_text.specs.EncodedText.{text_of_fields}
use Rattle.argon_text_tests.proofs.vectors.texts_of_fields.Goals as goal

pub returns : goal.returns
unfolding text_of_fields
returns c = record { with_version = refl; without_version = refl }
