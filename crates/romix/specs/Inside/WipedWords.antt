-- Words that a list lends.

use Rattle.std.specs.Prelude.{List, ℕ}
use Rattle.std.specs.Borrow.{Array, Fml, Lends, MutBor, u32}
use Rattle.std.specs.Vec.{with_items}
use Rattle.romix.specs.declared.wiped_words.WipedWords.{WipedWords}
use Rattle.romix.specs.contracts.wiped_words.WipedWords.{the_row}

-- The list ends with the words that were last left in what it lent.
abbrev pub LendsMutableWords : MutBor WipedWords → MutBor (List ℕ) → Fml
LendsMutableWords held words = Lends the_row (Array u32 0) held words (λ left. record held.now { list = with_items held.now.list left })
