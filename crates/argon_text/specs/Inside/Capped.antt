-- Numbers that are out of every range where they are great.
use Rattle.std.specs.Prelude.{◌≡◌, ℕ, ◌^◌, ◌<◌, ◌≤◌}

-- the number itself below 2^32, and 2^32 for all others
pub record IsCapped (capped number : ℕ) : Type 0 where
  pub value : number < 2 ^ 32 → capped ≡ number
  pub great : 2 ^ 32 ≤ number → capped ≡ 2 ^ 32
