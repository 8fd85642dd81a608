-- A number that is kept for contracts alone.
use Rattle.std.specs.Prelude.{ℕ, ◌+◌}
use Rattle.memory_system.specs.declared.unbounded_count.GhostNaturalNumber.{GhostNaturalNumber, Zero, OneMore'}

-- the number that a `GhostNaturalNumber` stands for
abbrev pub number_of : GhostNaturalNumber → ℕ
number_of Zero = 0
number_of (OneMore' held less) = number_of less + 1
