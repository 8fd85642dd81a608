use Rattle.std.proofs.Common.{refl}
use Rattle.sha2.specs.Sha256.{compress, digest_bytes, first_words, hash_after, rounds, schedule, sha256}
use Rattle.macs.specs.HmacSha256.{hmac_sha256, key_block}
use Rattle.macs.specs.Pbkdf2.{joined_blocks, pbkdf2}
use Rattle.romix.specs.BlockMix.{block_mix, block_mix_x_after, every_second_output}
use Rattle.romix.specs.Romix.{integerify, romix, romix_row_after_turns, row_of_v}
use Rattle.romix.specs.Salsa20.{double_rounds, quarter_round, quarter_round_at, quarter_rounds, salsa20_8}
use Rattle.romix.specs.Scrypt.{parts_after_romix, scrypt, words_of}
use Rattle.aes_ctr.specs.CounterMode.{counter_mode_from, key_stream_block}
use Rattle.aes_ctr.specs.Aes.{add_round_key, aes256, affine_bits, cipher, inverse, key_words, mix_columns, polynomial_product, product, product_of_squares, polynomial_remainder, schedule_words, shift_rows, state_after, sub_byte, sub_bytes}
use Rattle.encfile.specs.Header.{header}
use Rattle.encfile.specs.EncryptedFile.{body, derived_key, encrypted_file, head}
use Rattle.encfile_tests.proofs.vectors.file_of_one_byte.Goals as goal

pub returns : goal.returns
unfolding first_words schedule rounds compress hash_after digest_bytes sha256 key_block hmac_sha256 joined_blocks pbkdf2 quarter_round quarter_round_at quarter_rounds double_rounds salsa20_8 block_mix_x_after every_second_output block_mix integerify row_of_v romix_row_after_turns romix words_of parts_after_romix scrypt key_stream_block aes256 cipher state_after add_round_key mix_columns shift_rows sub_bytes schedule_words key_words sub_byte affine_bits inverse product_of_squares product polynomial_product polynomial_remainder counter_mode_from header derived_key head body encrypted_file
returns c = record { file = refl }
