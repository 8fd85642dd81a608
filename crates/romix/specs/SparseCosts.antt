-- Costs over a table that keeps the rows of V whose number a power of two divides, and what they take.
use Rattle.std.specs.Prelude.{◌≡◌, ℕ, ◌+◌, ◌*◌, ◌/◌, ◌^◌, ◌≤◌, Bool, true, ◌||◌, nat_eq}
use Rattle.romix.specs.Costs.{Parameters, IsInRange, parts_bytes}

-- scrypt's parameters, and S: row i of V is kept where S divides i
pub record CostsAndKeep : Type 0 where
  pub costs : Parameters
  pub keep : ℕ

-- the costs with every row of V kept: S is 1
abbrev pub whole : Parameters → CostsAndKeep
whole c = record { costs = c; keep = 1 }

-- whether s is a power of two from 1 to 1,024
abbrev pub is_valid_keep : ℕ → Bool
is_valid_keep s =
    nat_eq s 1 || nat_eq s 2 || nat_eq s 4 || nat_eq s 8 || nat_eq s 16 || nat_eq s 32 || nat_eq s 64 || nat_eq s 128
    || nat_eq s 256 || nat_eq s 512 || nat_eq s 1024

-- the costs are in range, and S is a power of two from 1 to 1,024 and at most N
pub record HasCostsAndKeepInRange (s : CostsAndKeep) : Type 0 where
  pub costs : IsInRange s.costs
  pub low : 1 ≤ s.keep
  pub high : s.keep ≤ 1024
  pub at_most_n : s.keep ≤ 2 ^ s.costs.log_n
  pub power : is_valid_keep s.keep ≡ true

-- the bytes of the N / S rows of V that are kept
abbrev pub sparse_table_bytes : CostsAndKeep → ℕ
sparse_table_bytes s = 128 * s.costs.r * (2 ^ s.costs.log_n / s.keep)

-- an upper bound on the Salsa20/8 cores, with 2 * r a BlockMix: each of the p ROMixes has N BlockMixes that fill V, N
-- of the turns (RFC 7914, 4 to 6), and before each turn at most S - 1 from a kept row to the row that it reads
abbrev pub cores_bound : CostsAndKeep → ℕ
cores_bound s = 2 * s.costs.r * s.costs.p * 2 ^ s.costs.log_n * (1 + s.keep)

-- neither the N / S rows of V that are kept nor B have more than this number of bytes
pub record SparseFitsMemory (s : CostsAndKeep) (max_bytes : ℕ) : Type 0 where
  pub table : sparse_table_bytes s ≤ max_bytes
  pub parts : parts_bytes s.costs ≤ max_bytes
