use Rattle.std.proofs.Common.{refl}
use Rattle.aes_ctr.specs.Inside.Circuit.{norm}
use Rattle.aes_ctr.proofs.sub_planes.norm.Goals as goal

pub returns : goal.returns
unfolding norm
returns c = record { wires = refl }
