-- Costs that the limits of a task admit, over the table that is kept.
use Rattle.std.specs.Prelude.{◌≤◌}
use Rattle.romix.specs.SparseCosts.{SparseFitsMemory, CostsAndKeep, cores_bound}
use Rattle.romix.specs.declared.limits.Limits.{Limits}

-- the limits admit the costs with S
pub record AreCostsWithinLimits (sparse : CostsAndKeep) (limits : Limits) : Type 0 where
  pub memory : SparseFitsMemory sparse limits.max_bytes
  pub work : cores_bound sparse ≤ limits.max_ops
