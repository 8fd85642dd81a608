-- Blocks that a list lends.

use Rattle.std.specs.Prelude.{List, ℕ}
use Rattle.std.specs.Borrow.{Array, Fml, Lends, MutBor, u64}
use Rattle.std.specs.Vec.{with_items}
use Rattle.argon.specs.declared.wiped_blocks.WipedBlocks.{WipedBlocks}
use Rattle.argon.specs.contracts.wiped_blocks.WipedBlocks.{the_row}

-- The list ends with the blocks that were last left in what it lent.
abbrev pub LendsMutableBlocks : MutBor WipedBlocks → MutBor (List (List ℕ)) → Fml
LendsMutableBlocks held blocks = Lends the_row (Array (Array u64 128) 0) held blocks (λ left. record held.now { list = with_items held.now.list left })
