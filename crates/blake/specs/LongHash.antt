-- The variable-length hash function H' of Argon2, as functions on lists of bytes. Section numbers
-- and the letters V and r are those of RFC 9106.
use Rattle.std.specs.Prelude.{ℕ, zero, suc, ◌-◌, ◌*◌, List, ◌++◌, take, nat_le, if◌then◌else◌}
use Rattle.std.specs.Int.{div_ceil}
use Rattle.std.specs.List.{flat_map}
use Rattle.std.specs.Borrow.{Bor}
use Rattle.byteorder.specs.Endian.{little_bytes}
use Rattle.blake.specs.Blake2b.{blake2b}

-- the bytes of all parts, one part after another
abbrev pub joined : List (Bor (List ℕ)) → List ℕ
joined parts = flat_map (λ p. p.now) parts

-- the end of H' from a V_i of 64 bytes on, after which k more V of 64 bytes and then one of n bytes come: the first
-- 32 bytes of V_i and of each of the k, and then the last V whole (3.3)
unfoldable pub links : ℕ → ℕ → List ℕ → List ℕ
links n zero v = take 32 v ++ blake2b n v
links n (suc k) v = take 32 v ++ links n k (blake2b 64 v)

-- r = ceil(n / 32) - 2, for an answer of n > 64 bytes: the number of V_i of which the first 32 bytes are taken; of
-- V_(r+1), which has n - 32 * r bytes, all are. For 1,024 bytes r is 30, and V_31 has 64 bytes (3.3)
abbrev pub hash_link_count : ℕ → ℕ
hash_link_count n = div_ceil n 32 - 2

-- H' of n bytes of the message a: one hash of LE32(n) || a up to 64 bytes, and above these W_1 || .. || W_r ||
-- V_(r+1), where W_i is the first 32 bytes of V_i, and V_1 is the hash of LE32(n) || a (3.3)
unfoldable pub long_hash : ℕ → List ℕ → List ℕ
long_hash n a =
    let r = hash_link_count n in
    let message = little_bytes 4 n ++ a in
    if nat_le n 64 then blake2b n message else links (n - 32 * r) (r - 1) (blake2b 64 message)
