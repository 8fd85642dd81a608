use Rattle.std.proofs.Common.{refl}
use Rattle.argon.specs.Woven.{all_blocks_in_slice_progress}
use Rattle.argon_tests.proofs.vectors.slice_made_by_lanes.Goals as goal

pub returns : goal.returns
unfolding all_blocks_in_slice_progress
returns c = record {
  next_slices = refl;
  slices_left = refl;
  not_started = refl;
  columns_after = refl;
  left = refl;
  left_of_the_first = refl;
  next_indices = refl;
  next_numbers = refl;
  step = refl;
  left_after_step = refl;
  left_after_turns = refl;
  work_of_turns = refl;
  held = refl;
  made = refl;
  whole_slice = refl;
  slices_made = refl;
}
