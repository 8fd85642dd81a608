use Rattle.std.proofs.Common.{refl}
use Rattle.romix.specs.Salsa20.{quarter_round}
use Rattle.romix_tests.proofs.vectors.quarter_round_example.Goals as goal

pub returns : goal.returns
unfolding quarter_round
returns c = record { words = refl }
