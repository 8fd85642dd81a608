-- What lanes have made of a matrix in its next slice (RFC 9106, 3.4): it follows from the matrix before the slice and
-- from how many blocks of it each lane has left, and not from the order in which the lanes went on.
use Rattle.std.specs.Prelude.{◌≡◌, ℕ, ◌+◌, ◌*◌, ◌/◌, ◌%◌, Bool, ◌&&◌, nat_le, nat_lt, List, [], get_or, length, map, replicate, if◌then◌else◌}
use Rattle.std.specs.List.{range_with_len}
use Rattle.argon.specs.Argon2.{matrix_block}
use Rattle.argon.specs.Counts.{first_index}
use Rattle.argon.specs.Filling.{Filling}
use Rattle.argon.specs.Parameters.{lane_len, segment_len}
use Rattle.argon.specs.SliceProgress.{SliceProgress, next_column}

-- the first column of the next slice that is made from other blocks
abbrev pub first_column : Filling → ℕ
first_column matrix =
    matrix.slices_made % 4 * segment_len matrix.parameters + first_index (matrix.slices_made / 4) (matrix.slices_made % 4)

-- the column of a place in the slice is one that its lane has made
abbrev pub is_column_made : Filling → List ℕ → ℕ → ℕ → Bool
is_column_made matrix left lane column =
    nat_le (first_column matrix) column && nat_lt column (next_column (record { matrix = matrix; left = left }) lane)

-- the block of a lane's column: B's where the lane has made it in the slice, and elsewhere the one that was there
-- before
abbrev pub block_in_slice_progress : Filling → List ℕ → ℕ → ℕ → List ℕ
block_in_slice_progress matrix left lane column =
    if is_column_made matrix left lane column
    then matrix_block matrix.parameters matrix.first_hash (matrix.slices_made / 4 * lane_len matrix.parameters + column) lane
    else get_or matrix.blocks (lane * lane_len matrix.parameters + column) []

-- the blocks of all places, lane after lane
unfoldable pub all_blocks_in_slice_progress : Filling → List ℕ → List (List ℕ)
all_blocks_in_slice_progress matrix left =
    map (λ place. block_in_slice_progress matrix left (place / lane_len matrix.parameters) (place % lane_len matrix.parameters))
    (range_with_len 0 (length matrix.blocks))

-- a weave of that matrix where each lane has so many blocks left
abbrev pub woven : Filling → List ℕ → SliceProgress
woven matrix left = record { matrix = record matrix { blocks = all_blocks_in_slice_progress matrix left }; left = left }

-- the weave was opened on that matrix
pub record IsSliceProgressOf (matrix : Filling) (weaving : SliceProgress) : Type 0 where
  pub woven : weaving ≡ woven matrix weaving.left

-- the matrix with its next slice made: B's blocks stand in the columns of the slice, but for columns 0 and 1 of the
-- first pass, which stay as every other place does
abbrev pub with_next_slice : Filling → Filling
with_next_slice matrix = record matrix {
  slices_made = matrix.slices_made + 1;
  blocks = all_blocks_in_slice_progress matrix (replicate matrix.parameters.lanes 0);
}
