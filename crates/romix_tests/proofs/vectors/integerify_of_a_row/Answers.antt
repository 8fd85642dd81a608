use Rattle.std.proofs.Common.{refl}
use Rattle.romix.specs.Romix.{integerify}
use Rattle.romix_tests.proofs.vectors.integerify_of_a_row.Goals as goal

pub returns : goal.returns
unfolding integerify
returns c = record { number = refl }
