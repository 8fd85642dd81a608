use Rattle.std.proofs.Common.{◌≡◌, ◌+◌, ◌*◌, length}
use Rattle.argon.specs.Counts.{segment_work}
use Rattle.argon.specs.Filling.{Filling}
use Rattle.argon.specs.Woven.{all_blocks_in_slice_progress}
use Rattle.argon.specs.Inside.NextSlice.{IsNextSlice}
use Rattle.argon.proofs.Woven.{left_after_lanes}
use Rattle.argon.proofs.segment.fill_slice.Given as goal

abbrev pub invariant-loop-lane : goal.invariant-loop-lane
invariant-loop-lane l =
    (length l.blocks ≡ length l.fn.blocks) × (l.ticks ≡ l.fn.ticks + l.lane * segment_work l.params l.pass l.slice)
    × ((matrix : Filling) → IsNextSlice matrix l.params l.pass l.slice → l.fn.blocks ≡ matrix.blocks
    → l.blocks ≡ all_blocks_in_slice_progress matrix (left_after_lanes l.params l.pass l.slice l.lane))
