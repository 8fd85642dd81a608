use Rattle.std.proofs.Common.{refl}
use Rattle.aes_ctr.specs.Inside.Circuit.{output_wires}
use Rattle.aes_ctr.proofs.sub_planes.output_wires.Goals as goal

pub returns : goal.returns
unfolding output_wires
returns c = record { wires = refl }
