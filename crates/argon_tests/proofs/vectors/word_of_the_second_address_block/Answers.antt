use Rattle.std.proofs.Common.{refl}
use Rattle.argon.specs.Compression.{mixed_words, words_after_gb_steps, block_after_rows, block_after_columns, compression_of_xor, compression}
use Rattle.argon.specs.Reference.{address_block, reference_number, reference_words}
use Rattle.argon_tests.proofs.vectors.word_of_the_second_address_block.Goals as goal

pub returns : goal.returns
unfolding mixed_words words_after_gb_steps block_after_rows block_after_columns compression_of_xor compression address_block reference_number reference_words
returns c = record { word = refl; place = refl }
