use Rattle.std.proofs.Common.{refl}
use Rattle.aes_ctr.specs.Inside.Circuit.{inverse_of_norm}
use Rattle.aes_ctr.proofs.sub_planes.inverse_of_norm.Goals as goal

pub returns : goal.returns
unfolding inverse_of_norm
returns c = record { wires = refl }
