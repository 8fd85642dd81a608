-- Bytes that a list lends.

use Rattle.std.specs.Prelude.{List, ℕ}
use Rattle.std.specs.Borrow.{Array, Fml, Lends, MutBor, u8}
use Rattle.std.specs.Vec.{with_items}
use Rattle.argon2_command.specs.declared.bytes.Bytes.{Bytes}
use Rattle.argon2_command.specs.contracts.bytes.Bytes.{the_row}

-- The list ends with the bytes that were last left in what it lent.
abbrev pub LendsMutableBytes : MutBor Bytes → MutBor (List ℕ) → Fml
LendsMutableBytes bytes slice = Lends the_row (Array u8 0) bytes slice (λ left. record bytes.now { list = with_items bytes.now.list left })
