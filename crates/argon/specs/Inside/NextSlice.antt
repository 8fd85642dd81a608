-- The slice that a matrix makes next (RFC 9106, 3.4).
use Rattle.std.specs.Prelude.{◌≡◌, ℕ, ◌/◌, ◌%◌, ◌<◌, ◌≤◌, List, length, slice_index}
use Rattle.argon.specs.Counts.{computed_block_count}
use Rattle.argon.specs.Filling.{Filling, HasSliceLeft, IsFilling}
use Rattle.argon.specs.Parameters.{Parameters}

-- the slice is the next one of a matrix of those parameters
pub record IsNextSlice (matrix : Filling) (parameters : Parameters) (pass slice : ℕ) : Type 0 where
  pub filling : IsFilling matrix
  pub next : HasSliceLeft matrix
  pub is_of : matrix.parameters ≡ parameters
  pub pass_is : pass ≡ matrix.slices_made / 4
  pub slice_is : slice ≡ matrix.slices_made % 4

-- as many blocks as each lane has left can be left of a segment
pub record AreCountsOfBlocksLeft (parameters : Parameters) (pass slice : ℕ) (left : List ℕ) : Type 0 where
  pub lanes : length left ≡ parameters.lanes
  pub few : (lane : ℕ) → lane < parameters.lanes → slice_index left lane ≤ computed_block_count parameters pass slice
