use Rattle.std.proofs.Common.{refl}
use Rattle.sha2.specs.Sha256.{compress, digest_bytes, first_words, hash_after, rounds, schedule, sha256}
use Rattle.macs.specs.HmacSha256.{hmac_sha256, key_block}
use Rattle.macs.specs.Pbkdf2.{joined_blocks, pbkdf2}
use Rattle.macs_tests.proofs.vectors.pbkdf2_keys.Goals as goal

pub returns : goal.returns
unfolding compress digest_bytes first_words hash_after rounds schedule sha256 hmac_sha256 key_block joined_blocks pbkdf2
returns c = record { of_64_bytes = refl; of_33_bytes = refl; of_1_byte = refl }
