use Rattle.std.proofs.Common.{refl}
use Rattle.argon.specs.Reference.{reference_number}
use Rattle.argon_tests.proofs.vectors.columns_that_words_name.Goals as goal

pub returns : goal.returns
unfolding reference_number
returns c = record {
  own_lane = refl;
  later_lane = refl;
  earlier_lane = refl;
  first_column = refl;
  first_column_of_own_lane = refl;
  last_slice = refl;
  first_slice_later = refl;
  first_slice_later_of_other_lane = refl;
  first_pass = refl;
  first_pass_of_other_lane = refl;
  first_slice = refl;
  last_slice_of_first_pass = refl;
  first_slice_of_pass_2 = refl;
  pass_3 = refl;
  column_257 = refl;
}
