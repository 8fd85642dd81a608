-- The costs of a derivation, which are scrypt's parameters (RFC 7914, 2), and what they take.
use Rattle.std.specs.Prelude.{ℕ, ◌*◌, ◌^◌, ◌<◌, ◌≤◌}

-- the cost N by its binary logarithm, the block size r and the parallelization p (section 2)
pub record Parameters : Type 0 where
  pub log_n : ℕ
  pub r : ℕ
  pub p : ℕ

-- N is a power of two above 1, r and p are not 0, and r * p is below 2^30, that is, p <= (2^32 - 1) * 32 / (128 * r)
-- (sections 2 and 6). That N is at most 2^63 is FORMAT's bound for scrypt's files, not the RFC's; the RFC's bound
-- N < 2^(128 * r / 8) is left out, since FORMAT has none (it matters for r from 1 to 3 alone)
pub record IsInRange (c : Parameters) : Type 0 where
  pub log_n_low : 1 ≤ c.log_n
  pub log_n_high : c.log_n ≤ 63
  pub r_low : 1 ≤ c.r
  pub p_low : 1 ≤ c.p
  pub product : c.r * c.p < 2 ^ 30

-- the bytes of V, N blocks of 128 * r bytes (section 5)
abbrev pub table_bytes : Parameters → ℕ
table_bytes c = 128 * 2 ^ c.log_n * c.r

-- the bytes of B, p blocks of 128 * r bytes (section 6)
abbrev pub parts_bytes : Parameters → ℕ
parts_bytes c = 128 * c.r * c.p

-- the Salsa20/8 cores where V is kept whole: 2 * r a BlockMix (section 4), 2 * N of these a ROMix (section 5), p
-- ROMixes (section 6)
abbrev pub cores : Parameters → ℕ
cores c = 4 * 2 ^ c.log_n * c.r * c.p

-- neither V (section 5) nor B (section 6) has more than this number of bytes
pub record FitsMemory (c : Parameters) (max_bytes : ℕ) : Type 0 where
  pub table : table_bytes c ≤ max_bytes
  pub parts : parts_bytes c ≤ max_bytes
