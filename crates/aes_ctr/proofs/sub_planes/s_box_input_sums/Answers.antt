use Rattle.std.proofs.Common.{refl}
use Rattle.aes_ctr.specs.Inside.Circuit.{s_box_input_sums}
use Rattle.aes_ctr.proofs.sub_planes.s_box_input_sums.Goals as goal

pub returns : goal.returns
unfolding s_box_input_sums
returns c = record { wires = refl }
