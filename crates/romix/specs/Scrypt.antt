-- scrypt (RFC 7914, 6). Octets and words meet here alone: four octets are one word, the lowest first (Salsa20
-- specification, 7 and 8).
use Rattle.std.specs.Prelude.{ℕ, zero, suc, ◌*◌, List, [], ◌++◌, map, take, drop}
use Rattle.std.specs.List.{flat_map, range_with_len}
use Rattle.byteorder.specs.Endian.{little_bytes, little_number}
use Rattle.macs.specs.Pbkdf2.{pbkdf2}
use Rattle.romix.specs.Romix.{romix}

-- the first n words of a list of octets, four octets a word, the lowest first (Salsa20 specification, 7 and 8)
unfoldable pub words_of : List ℕ → ℕ → List ℕ
words_of octets n = map (λ i. little_number 4 (drop (4 * i) octets)) (range_with_len 0 n)

-- the octets of a list of words, four octets a word, the lowest first (Salsa20 specification, 7 and 8)
abbrev pub octets_of : List ℕ → List ℕ
octets_of words = flat_map (little_bytes 4) words

-- B[k], part k of 128 * r octets (step 1)
abbrev pub part_at : List ℕ → ℕ → ℕ → List ℕ
part_at b r k = take (128 * r) (drop (128 * r * k) b)

-- scryptROMix of a part of 128 * r octets, with n for N (step 2)
abbrev pub mixed_part : List ℕ → ℕ → ℕ → List ℕ
mixed_part octets n r = octets_of (romix (words_of octets (32 * r)) n)

-- scryptROMix of each of the first p parts of B, joined, with n for N (step 2)
unfoldable pub parts_after_romix : List ℕ → ℕ → ℕ → ℕ → List ℕ
parts_after_romix b n r zero = []
parts_after_romix b n r (suc p) = parts_after_romix b n r p ++ mixed_part (part_at b r p) n r

-- scrypt (P, S, N, r, p, dkLen), with n for N: PBKDF2 gives B (step 1), and with the mixed B as its salt the key
-- (step 3)
unfoldable pub scrypt : List ℕ → List ℕ → ℕ → ℕ → ℕ → ℕ → List ℕ
scrypt password salt n r p len = pbkdf2 password (parts_after_romix (pbkdf2 password salt (128 * r * p)) n r p) len
