use Rattle.std.proofs.Common.{refl}
use Rattle.argon.specs.Reference.{reference_words}
use Rattle.argon.specs.Woven.{all_blocks_in_slice_progress}
use Rattle.argon_tests.proofs.vectors.slices_of_passes.Goals as goal

pub returns : goal.returns
unfolding all_blocks_in_slice_progress reference_words
returns c = record {
  first_columns = refl;
  next_slice = refl;
  left = refl;
  left_of_three_lanes = refl;
  next_numbers = refl;
  work_of_turns = refl;
  no_turn = refl;
  no_block_after_more_turns = refl;
  planned_lanes = refl;
  planned_lanes_later = refl;
  planned_column = refl;
  planned_words = refl;
  words = refl;
  word_of_the_block_before = refl;
  word_of_the_block_before_in_slice_2 = refl;
  no_entry = refl;
  work_of_one_lane = refl;
  block_of_pass_1 = refl;
  block_of_slice_2 = refl;
}
