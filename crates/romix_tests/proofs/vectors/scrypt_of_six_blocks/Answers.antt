use Rattle.std.proofs.Common.{refl}
use Rattle.sha2.specs.Sha256.{compress, digest_bytes, first_words, hash_after, rounds, schedule, sha256}
use Rattle.macs.specs.HmacSha256.{hmac_sha256, key_block}
use Rattle.macs.specs.Pbkdf2.{joined_blocks, pbkdf2}
use Rattle.romix.specs.BlockMix.{block_mix, block_mix_x_after, every_second_output}
use Rattle.romix.specs.Romix.{integerify, romix, romix_row_after_turns, row_of_v}
use Rattle.romix.specs.Salsa20.{double_rounds, quarter_round, quarter_round_at, quarter_rounds, salsa20_8}
use Rattle.romix.specs.Scrypt.{parts_after_romix, scrypt, words_of}
use Rattle.romix_tests.proofs.vectors.scrypt_of_six_blocks.Goals as goal

pub returns : goal.returns
unfolding compress digest_bytes first_words hash_after rounds schedule sha256 hmac_sha256 key_block joined_blocks pbkdf2 block_mix block_mix_x_after every_second_output integerify romix romix_row_after_turns row_of_v double_rounds quarter_round quarter_round_at quarter_rounds salsa20_8 parts_after_romix scrypt words_of
returns c = record { key = refl; two_bytes = refl }
