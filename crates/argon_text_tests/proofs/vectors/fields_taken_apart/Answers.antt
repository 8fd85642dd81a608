use Rattle.std.proofs.Common.{refl}
use Rattle.argon_text.specs.EncodedText.{text_of_fields}
use Rattle.argon_text.specs.Reading.{fields_at, kind_at, number_at, version_at}
use Rattle.argon_text_tests.proofs.vectors.fields_taken_apart.Goals as goal

pub returns : goal.returns
unfolding text_of_fields number_at kind_at version_at fields_at
returns c = record { whole = refl; short = refl; stopped = refl }
