-- A matrix of which one slice is being made, block by block, by lanes in any order, as contracts see
-- it (RFC 9106, 3.4).
use Rattle.std.specs.Prelude.{◌≡◌, ℕ, ◌+◌, ◌-◌, ◌*◌, ◌/◌, ◌%◌, ◌<◌, ◌≤◌, List, length, max, replicate, set, slice_index}
use Rattle.std.specs.List.{sum_by}
use Rattle.argon.specs.Argon2.{matrix_block}
use Rattle.argon.specs.Buffer.{HoldsNewestBlocks}
use Rattle.argon.specs.Counts.{address_block_count, address_work, computed_block_count}
use Rattle.argon.specs.Filling.{Filling, HasSliceLeft}
use Rattle.argon.specs.Parameters.{Parameters, block_count, lane_len, segment_len}
use Rattle.argon.specs.Range.{IsInRangeWithAnyPassword}
use Rattle.argon.specs.Reference.{ReadsFinishedSegments, is_independent}

-- what contracts see of a weave
pub record SliceProgress : Type 0 where
  -- the matrix before the slice, but with the blocks of the slice that are made so far
  pub matrix : Filling
  -- how many blocks of the slice each lane has still to make
  pub left : List ℕ

-- a weave of which nothing is made
abbrev pub new_slice_progress : Filling → SliceProgress
new_slice_progress filling = record {
  matrix = filling;
  left = replicate filling.parameters.lanes
      (computed_block_count filling.parameters (filling.slices_made / 4) (filling.slices_made % 4));
}

-- the index in its segment of the column that a lane makes next
abbrev pub next_index_in_segment : SliceProgress → ℕ → ℕ
next_index_in_segment weaving lane = segment_len weaving.matrix.parameters - slice_index weaving.left lane

-- the column that a lane makes next, counted from the first of the lane
abbrev pub next_column : SliceProgress → ℕ → ℕ
next_column weaving lane =
    weaving.matrix.slices_made % 4 * segment_len weaving.matrix.parameters + next_index_in_segment weaving lane

-- the number of the column that a lane makes next: that of column c in pass r is r * q + c
abbrev pub next_column_number : SliceProgress → ℕ → ℕ
next_column_number weaving lane =
    weaving.matrix.slices_made / 4 * lane_len weaving.matrix.parameters + next_column weaving lane

-- the columns of the slice that each lane has made hold B's blocks, and every other place holds the
-- newest version from before the slice, where one exists
abbrev pub HoldsNewestBlocksByLane : SliceProgress → Type 0
HoldsNewestBlocksByLane weaving =
    HoldsNewestBlocks weaving.matrix.parameters weaving.matrix.first_hash weaving.matrix.blocks (next_column_number weaving)

-- whatever word J the next column of a lane has, what it names in another lane stands in a finished segment
abbrev pub ReadsFinishedSegmentsNext : SliceProgress → ℕ → Type 0
ReadsFinishedSegmentsNext weaving lane =
    ReadsFinishedSegments weaving.matrix.parameters (weaving.matrix.slices_made / 4) lane (weaving.matrix.slices_made % 4)
    (next_index_in_segment weaving lane)

-- the blocks where a lane has made its next one: one place is another
abbrev pub with_next_block : SliceProgress → ℕ → List (List ℕ)
with_next_block weaving lane =
    set weaving.matrix.blocks (lane * lane_len weaving.matrix.parameters + next_column weaving lane)
    (matrix_block weaving.matrix.parameters weaving.matrix.first_hash (next_column_number weaving lane) lane)

-- the weave where a lane has made its next block: that lane has one less left
abbrev pub after_step : SliceProgress → ℕ → SliceProgress
after_step weaving lane = record {
  matrix = record weaving.matrix { blocks = with_next_block weaving lane };
  left = set weaving.left lane (slice_index weaving.left lane - 1);
}

-- no lane has any block left to make
pub record HasNoBlocksLeft (weaving : SliceProgress) : Type 0 where
  pub none : (lane : ℕ) → lane < weaving.matrix.parameters.lanes → slice_index weaving.left lane ≡ 0

-- the block functions that a lane has still to take, where it has so many blocks of the slice left:
-- one for each, and those of the address blocks that are not yet made
abbrev pub lane_work_left : Parameters → ℕ → ℕ → ℕ → ℕ
lane_work_left parameters pass slice left =
    left + address_work (is_independent parameters pass slice)
    (address_block_count (segment_len parameters) - max 1 (address_block_count (segment_len parameters - left)))

-- the block functions that are left of the slice's share
abbrev pub work_left : SliceProgress → ℕ
work_left weaving =
    sum_by (lane_work_left weaving.matrix.parameters (weaving.matrix.slices_made / 4) (weaving.matrix.slices_made % 4))
    weaving.left

-- what holds of every weave
pub record IsSliceProgress (weaving : SliceProgress) : Type 0 where
  pub in_range : IsInRangeWithAnyPassword weaving.matrix.parameters
  pub next : HasSliceLeft weaving.matrix
  pub size : length weaving.matrix.blocks ≡ block_count weaving.matrix.parameters
  pub lanes : length weaving.left ≡ weaving.matrix.parameters.lanes
  pub left : (lane : ℕ) → lane < weaving.matrix.parameters.lanes → slice_index weaving.left lane
      ≤ computed_block_count weaving.matrix.parameters (weaving.matrix.slices_made / 4) (weaving.matrix.slices_made % 4)
  pub newest : HoldsNewestBlocksByLane weaving
