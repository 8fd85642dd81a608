-- Which costs are refused, and why. A product in a test is a whole number, so none wraps.
use Rattle.std.specs.Prelude.{ℕ, ◌*◌, ◌^◌, Bool, not, ◌&&◌, ◌||◌, [], ◌∷◌, nat_eq, nat_lt, nat_le, Option}
use Rattle.romix.specs.Costs.{Parameters, cores, parts_bytes, table_bytes}
use Rattle.romix.specs.FirstOf.{first_of}
use Rattle.romix.specs.SparseCosts.{CostsAndKeep, cores_bound, is_valid_keep, sparse_table_bytes}
use Rattle.romix.specs.declared.limits.Limits.{Limits}
use Rattle.romix.specs.declared.fault.CostFault.{CostFault}
use Rattle.romix.specs.declared.fault.CostFault.TheVariants.{LogN, Zero, Product, Memory, Work, Keep, KeepAboveN}

-- why these numbers are no costs, if they aren't: the first that holds of log2 N (from 1, and up to FORMAT's 63), r
-- or p of 0, and r * p (RFC 7914, 2 and 6)
abbrev pub cost_fault : ℕ → ℕ → ℕ → Option CostFault
cost_fault log_n r p = first_of (
    (not (nat_le 1 log_n && nat_le log_n 63), LogN)
    ∷ (nat_eq r 0 || nat_eq p 0, Zero)
    ∷ (nat_le (2 ^ 30) (r * p), Product)
    ∷ [])

-- why the limits don't admit the costs with V kept whole, if they don't
abbrev pub limit_fault : Parameters → Limits → Option CostFault
limit_fault c limits = first_of (
    (nat_lt limits.max_bytes (table_bytes c) || nat_lt limits.max_bytes (parts_bytes c), Memory)
    ∷ (nat_lt limits.max_ops (cores c), Work)
    ∷ [])

-- ---- over a sparse table

-- whether S is above N
abbrev pub is_keep_number_above_n : CostsAndKeep → Bool
is_keep_number_above_n s = nat_lt (2 ^ s.costs.log_n) s.keep

-- whether the rows of V that are kept, or B, have more bytes than the limit
abbrev pub exceeds_memory : CostsAndKeep → Limits → Bool
exceeds_memory s limits = nat_lt limits.max_bytes (sparse_table_bytes s) || nat_lt limits.max_bytes (parts_bytes s.costs)

-- whether the upper bound on the Salsa20/8 cores is above the limit
abbrev pub exceeds_work : CostsAndKeep → Limits → Bool
exceeds_work s limits = nat_lt limits.max_ops (cores_bound s)

-- why S doesn't go with the costs, if it doesn't: it is no power of two from 1 to 1,024, or it is above N
abbrev pub keep_parameter_fault : CostsAndKeep → Option CostFault
keep_parameter_fault s = first_of ((not (is_valid_keep s.keep), Keep) ∷ (is_keep_number_above_n s, KeepAboveN) ∷ [])

-- why the limits don't admit the costs with S, if they don't: of memory, or of work
abbrev pub sparse_limit_fault : CostsAndKeep → Limits → Option CostFault
sparse_limit_fault s limits = first_of ((exceeds_memory s limits, Memory) ∷ (exceeds_work s limits, Work) ∷ [])
