use Rattle.std.proofs.Common.{refl}
use Rattle.blake.specs.Words.{words}
use Rattle.blake.specs.Blake2b.{mix, vector_after_mixings, rounds, state_xored_with_halves, compress, state_after, blake2b}
use Rattle.blake.specs.LongHash.{links, long_hash}
use Rattle.argon.specs.Compression.{mixed_words, words_after_gb_steps, block_after_rows, block_after_columns, compression_of_xor, compression}
use Rattle.argon.specs.Reference.{address_block, reference_words, reference_number}
use Rattle.argon.specs.Argon2.{first_hash, block_from_h0, block_at, matrix_columns, tag_by_first_hash, argon2_tag}
use Rattle.argon_tests.proofs.vectors.tag_of_argon2i_in_two_passes.Goals as goal

pub returns : goal.returns
unfolding words mix vector_after_mixings rounds state_xored_with_halves compress state_after blake2b links long_hash mixed_words words_after_gb_steps block_after_rows block_after_columns compression_of_xor compression address_block reference_words reference_number first_hash block_from_h0 block_at matrix_columns tag_by_first_hash argon2_tag
returns c = record { tag = refl }
