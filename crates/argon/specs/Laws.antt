-- Laws over the definitions, which src/laws.rt proves.
use Rattle.std.specs.Prelude.{ℕ, ◌+◌, ◌/◌, ◌%◌, ◌<◌, ◌≤◌, nat_lt, List, [], ◌∷◌, slice_index, if◌then◌else◌}
use Rattle.argon.specs.Counts.{column_work, first_index}
use Rattle.argon.specs.Filling.{Filling}
use Rattle.argon.specs.Parameters.{Parameters, segment_len}
use Rattle.argon.specs.SliceProgress.{HasNoBlocksLeft, SliceProgress, after_step, next_index_in_segment, new_slice_progress}

-- a block that is made from another one: its segment, and its index there (RFC 9106, 3.4)
pub record IsMadeByReference (c : Parameters) (pass lane slice index : ℕ) : Type 0 where
  pub long : 2 ≤ segment_len c
  pub lanes : lane < c.lanes
  pub slices : slice < 4
  pub from : first_index pass slice ≤ index
  pub to : index < segment_len c

-- the weave where a lane made its next block, if it had some left
abbrev pub after_turn : SliceProgress → ℕ → SliceProgress
after_turn weaving lane = if nat_lt 0 (slice_index weaving.left lane) then after_step weaving lane else weaving

-- the block functions that a lane's turn takes: those of its next column, if it has blocks left
abbrev pub lane_turn_work : SliceProgress → ℕ → ℕ
lane_turn_work weaving lane =
    if nat_lt 0 (slice_index weaving.left lane)
    then column_work weaving.matrix.parameters (weaving.matrix.slices_made / 4) (weaving.matrix.slices_made % 4) (next_index_in_segment weaving lane)
    else 0

-- the weave after the lanes of a list had their turns, one after another
abbrev pub after_lane_turns : SliceProgress → List ℕ → SliceProgress
after_lane_turns weaving [] = weaving
after_lane_turns weaving (lane ∷ order) = after_lane_turns (after_turn weaving lane) order

-- the block functions that the turns of the lanes of a list take, one after another
abbrev pub lane_turns_work : SliceProgress → List ℕ → ℕ
lane_turns_work weaving [] = 0
lane_turns_work weaving (lane ∷ order) = lane_turn_work weaving lane + lane_turns_work (after_turn weaving lane) order

-- the list names each lane as often as it has blocks to make in the next slice, or more often
abbrev pub IsLaneOrderOfWholeSlice : Filling → List ℕ → Type 0
IsLaneOrderOfWholeSlice matrix order = HasNoBlocksLeft (after_lane_turns (new_slice_progress matrix) order)
