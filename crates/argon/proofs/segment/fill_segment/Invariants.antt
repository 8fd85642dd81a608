use Rattle.std.proofs.Common.{◌≡◌, ℕ, ◌+◌, ◌-◌, List, length, set, slice_index}
use Rattle.std.specs.Prelude.{max}
use Rattle.argon.specs.Counts.{address_block_count, address_work, computed_block_count, first_index}
use Rattle.argon.specs.Filling.{Filling}
use Rattle.argon.specs.Reference.{HasAddresses}
use Rattle.argon.specs.Woven.{all_blocks_in_slice_progress}
use Rattle.argon.specs.Inside.NextSlice.{AreCountsOfBlocksLeft, IsNextSlice}
use Rattle.argon.proofs.segment.fill_segment.Given as goal

abbrev pub invariant-loop-index : goal.invariant-loop-index
invariant-loop-index l =
    (length l.blocks ≡ length l.fn.blocks)
    × (l.ticks + first_index l.segment.pass l.segment.slice ≡ l.fn.ticks + l.index + address_work l.segment.is_independent (max 1 (address_block_count l.index)))
    × HasAddresses l.params l.segment.pass l.segment.lane l.segment.slice l.index l.addresses
    × ((matrix : Filling) (left : List ℕ) → IsNextSlice matrix l.params l.segment.pass l.segment.slice → AreCountsOfBlocksLeft l.params l.segment.pass l.segment.slice left
    → slice_index left l.segment.lane ≡ computed_block_count l.params l.segment.pass l.segment.slice
    → l.fn.blocks ≡ all_blocks_in_slice_progress matrix left
    → l.blocks ≡ all_blocks_in_slice_progress matrix (set left l.segment.lane (l.segment.len - l.index)))
