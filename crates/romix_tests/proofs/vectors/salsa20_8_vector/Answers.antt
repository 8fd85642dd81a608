use Rattle.std.proofs.Common.{refl}
use Rattle.romix.specs.Salsa20.{double_rounds, quarter_round, quarter_round_at, quarter_rounds, salsa20_8}
use Rattle.romix_tests.proofs.vectors.salsa20_8_vector.Goals as goal

pub returns : goal.returns
unfolding quarter_round quarter_round_at quarter_rounds double_rounds salsa20_8
returns c = record { words = refl }
