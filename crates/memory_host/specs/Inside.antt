-- The calls that a host in memory counts.
use Rattle.std.specs.Prelude.{ℕ, ◌+◌, ◌-◌, ◌^◌, ◌==◌, if◌then◌else◌}

-- the number of the next call; it stays at the greatest
abbrev pub next_call_number : ℕ → ℕ
next_call_number n = if n == 2 ^ 64 - 1 then n else n + 1
