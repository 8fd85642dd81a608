use Rattle.std.proofs.Common.{refl}
use Rattle.sha2.specs.Sha256.{compress, digest_bytes, first_words, hash_after, rounds, schedule, sha256}
use Rattle.macs.specs.HmacSha256.{hmac_sha256, key_block}
use Rattle.macs.specs.Pbkdf2.{joined_blocks, pbkdf2}
use Rattle.romix.specs.BlockMix.{block_mix, block_mix_x_after, every_second_output}
use Rattle.romix.specs.Romix.{integerify, romix, romix_row_after_turns, row_of_v}
use Rattle.romix.specs.Salsa20.{double_rounds, quarter_round, quarter_round_at, quarter_rounds, salsa20_8}
use Rattle.romix.specs.Scrypt.{parts_after_romix, scrypt, words_of}
use Rattle.encfile.specs.Header.{header}
use Rattle.encfile.specs.EncryptedFile.{derived_key}
use Rattle.encfile.specs.Front.{format_refusal, front_refusal, header_refusal, file_refusal_before_passphrase}
use Rattle.encfile_tests.proofs.vectors.passphrases_of_one_byte.Goals as goal

pub returns : goal.returns
unfolding first_words schedule rounds compress hash_after digest_bytes sha256 key_block hmac_sha256 joined_blocks pbkdf2 quarter_round quarter_round_at quarter_rounds double_rounds salsa20_8 block_mix_x_after every_second_output block_mix integerify row_of_v romix_row_after_turns romix words_of parts_after_romix scrypt header derived_key header_refusal format_refusal file_refusal_before_passphrase front_refusal
returns c = record { own = refl; other = refl; end_of_code = refl; limits_first = refl }
