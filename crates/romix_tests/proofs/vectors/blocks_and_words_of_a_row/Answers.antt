use Rattle.std.proofs.Common.{refl}
use Rattle.romix.specs.Scrypt.{words_of}
use Rattle.romix_tests.proofs.vectors.blocks_and_words_of_a_row.Goals as goal

pub returns : goal.returns
unfolding words_of
returns c = record { words = refl; count = refl }
