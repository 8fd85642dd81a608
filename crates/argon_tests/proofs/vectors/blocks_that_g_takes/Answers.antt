use Rattle.std.proofs.Common.{refl}
use Rattle.argon.specs.Argon2.{block_at}
use Rattle.argon.specs.Reference.{reference_number}
use Rattle.argon_tests.proofs.vectors.blocks_that_g_takes.Goals as goal

pub returns : goal.returns
unfolding block_at reference_number
returns c = record {
  later_pass = refl;
  first_slice_later = refl;
  own_lane = refl;
  first_pass = refl;
  first_slice = refl;
  version_0x10 = refl;
  by_number = refl;
  by_another_number = refl;
}
