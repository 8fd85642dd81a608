use Rattle.std.proofs.Common.{refl}
use Rattle.argon.specs.Compression.{mixed_words, words_after_gb_steps, block_after_rows, block_after_columns, compression_of_xor, compression}
use Rattle.argon_tests.proofs.vectors.compression_of_two_blocks.Goals as goal

pub returns : goal.returns
unfolding mixed_words words_after_gb_steps block_after_rows block_after_columns compression_of_xor compression
returns c = record { words = refl }
