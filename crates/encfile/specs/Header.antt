-- The first 64 bytes of scrypt's encrypted file, version 0 (Tarsnap's FORMAT), as lists of bytes. Offsets are
-- FORMAT's.
use Rattle.std.specs.Prelude.{◌≡◌, ℕ, Bool, List, [], ◌∷◌, ◌++◌, length, take, drop, slice_index, codes, bytes_eq}
use Rattle.std.specs.Int.{w32, to_be_bytes, from_be_bytes}
use Rattle.sha2.specs.Sha256.{sha256}
use Rattle.romix.specs.Costs.{IsInRange, Parameters}

-- what a header says: the costs and the salt of the derivation
pub record CostsAndSalt : Type 0 where
  pub costs : Parameters
  pub salt : List ℕ

-- ---- the header of costs and a salt

-- bytes 0 to 47: the text `scrypt`, the version 0, log2 N, r and p (big-endian), and the salt
abbrev pub first_48_header_bytes : Parameters → List ℕ → List ℕ
first_48_header_bytes costs salt =
    codes "scrypt" ++ (0 ∷ costs.log_n ∷ []) ++ to_be_bytes w32 costs.r ++ to_be_bytes w32 costs.p ++ salt

-- bytes 48 to 63: the first 16 bytes of the SHA-256 of bytes 0 to 47
abbrev pub checksum : List ℕ → List ℕ
checksum bytes = take 16 (sha256 bytes)

-- bytes 0 to 63: bytes 0 to 47 and their checksum
unfoldable pub header : Parameters → List ℕ → List ℕ
header costs salt = first_48_header_bytes costs salt ++ checksum (first_48_header_bytes costs salt)

-- the list is the header of these costs, which are in range, and of this salt, which has 32 bytes
pub record IsHeaderOf (list : List ℕ) (said : CostsAndSalt) : Type 0 where
  pub salt_has_32_bytes : length said.salt ≡ 32
  pub in_range : IsInRange said.costs
  pub bytes : list ≡ header said.costs said.salt

-- ---- what a file says of itself

-- n bytes of a list, from byte i on
abbrev pub bytes_at : List ℕ → ℕ → ℕ → List ℕ
bytes_at file i n = take n (drop i file)

-- the costs that bytes 7 to 15 say: log2 N in one byte, r and p in four bytes each, the highest first
abbrev pub costs_of : List ℕ → Parameters
costs_of file = record {
  log_n = slice_index file 7;
  r = from_be_bytes w32 (bytes_at file 8 4);
  p = from_be_bytes w32 (bytes_at file 12 4);
}

-- the salt, bytes 16 to 47
abbrev pub salt_of : List ℕ → List ℕ
salt_of file = bytes_at file 16 32

-- whether bytes 0 to 5 are the text `scrypt`
abbrev pub has_magic : List ℕ → Bool
has_magic file = bytes_eq (take 6 file) (codes "scrypt")

-- whether bytes 48 to 63 are the checksum of bytes 0 to 47
abbrev pub has_right_checksum : List ℕ → Bool
has_right_checksum file = bytes_eq (bytes_at file 48 16) (checksum (take 48 file))
