-- The two forms of the key's block, and the length of a code.
use Rattle.std.proofs.Common.{◌≡◌, ℕ, ◌-◌, ◌<◌, ◌≤◌, List, ◌++◌, length, replicate, arith, true, false, leb}
use Rattle.std.proofs.lemmas.Bool.Decides.{nat_tests}
use Rattle.sha2.specs.Sha256.{sha256}
use Rattle.sha2.proofs.Facts256.{length-sha256}
use Rattle.macs.specs.HmacSha256.{hmac_sha256, key_block}

-- a key of at most 64 bytes is taken as it is
pub key_block-short : (key : List ℕ) → length key ≤ 64 → key_block key ≡ key ++ replicate (64 - length key) 0
unfolding key_block
key_block-short key h =
    let t : leb (length key) 64 ≡ true = grind (arith, nat_tests) in
    rw t

-- a longer key is hashed
pub key_block-long : (key : List ℕ) → 64 < length key → key_block key ≡ sha256 key ++ replicate 32 0
unfolding key_block
key_block-long key h =
    let t : leb (length key) 64 ≡ false = grind (arith, nat_tests) in
    let n : length (sha256 key) ≡ 32 = length-sha256 key in
    rw (t, n)

-- a code has 32 bytes
pub length-hmac_sha256 : (key message : List ℕ) → length (hmac_sha256 key message) ≡ 32
unfolding hmac_sha256
length-hmac_sha256 key message = length-sha256 _
