-- What a derivation may take.
use Rattle.std.specs.Prelude.{ℕ, ◌^◌, ◌≤◌}
use Rattle.romix.specs.Costs.{Parameters}
use Rattle.romix.specs.SparseCosts.{SparseFitsMemory, CostsAndKeep, cores_bound}
use Rattle.romix.specs.declared.limits.Limits.{Limits}

-- limits of memory and work, and S, the value of `--keep`, which changes no result (and is not the salt S of RFC
-- 7914): row i of V is kept where S divides i, so a greater S takes less memory and more work
pub record Allowance : Type 0 where
  pub limits : Limits
  pub keep : ℕ

-- the costs with the S of an allowance
abbrev pub costs_with_allowed_keep : Allowance → Parameters → CostsAndKeep
costs_with_allowed_keep a c = record { costs = c; keep = a.keep }

-- an allowance admits costs: its S is at most N, and neither of its limits is exceeded
pub record Admits (a : Allowance) (c : Parameters) : Type 0 where
  pub keep : a.keep ≤ 2 ^ c.log_n
  pub memory : SparseFitsMemory (costs_with_allowed_keep a c) a.limits.max_bytes
  pub work : cores_bound (costs_with_allowed_keep a c) ≤ a.limits.max_ops
