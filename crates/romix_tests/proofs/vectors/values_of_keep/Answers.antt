use Rattle.std.proofs.Common.{refl}
use Rattle.romix_tests.proofs.vectors.values_of_keep.Goals as goal

pub returns : goal.returns
returns c = record { powers = refl; beyond = refl }
