-- The matrix, as contracts see it.
pub use Rattle.argon.specs.Filling.{Filling}
use Rattle.argon.specs.Filling.{IsFilling}
use Rattle.argon.specs.declared.matrix.Matrix.TheInside.{Inside}

-- what the fields of a matrix say
abbrev pub filling_state_of_matrix : Inside → Filling
filling_state_of_matrix matrix = record {
  parameters = matrix.params;
  is_started = matrix.is_started;
  first_hash = matrix.h0;
  slices_made = matrix.slices_made;
  blocks = matrix.blocks.held.list.items;
}

-- what holds of the fields of each matrix
abbrev pub IsArgon2Matrix : Inside → Type 0
IsArgon2Matrix matrix = IsFilling (filling_state_of_matrix matrix)
