use Rattle.std.proofs.Common.{refl}
use Rattle.sha2.specs.Sha256.{compress, digest_bytes, first_words, hash_after, rounds, schedule, sha256}
use Rattle.macs.specs.HmacSha256.{hmac_sha256, key_block}
use Rattle.macs_tests.proofs.vectors.hmac_sha256_codes.Goals as goal

pub returns : goal.returns
unfolding compress digest_bytes first_words hash_after rounds schedule sha256 hmac_sha256 key_block
returns c = record { of_hi_there = refl; of_a_long_key = refl; of_a_whole_block = refl; of_a_byte_more = refl }
