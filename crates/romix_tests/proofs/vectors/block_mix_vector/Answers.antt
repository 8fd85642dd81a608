use Rattle.std.proofs.Common.{refl}
use Rattle.romix.specs.BlockMix.{block_mix, block_mix_x_after, every_second_output}
use Rattle.romix.specs.Salsa20.{double_rounds, quarter_round, quarter_round_at, quarter_rounds, salsa20_8}
use Rattle.romix_tests.proofs.vectors.block_mix_vector.Goals as goal

pub returns : goal.returns
unfolding quarter_round quarter_round_at quarter_rounds double_rounds salsa20_8 block_mix_x_after every_second_output block_mix
returns c = record { words = refl }
