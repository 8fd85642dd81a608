use Rattle.std.proofs.Common.{refl}
use Rattle.aes_ctr.specs.Inside.Circuit.{products}
use Rattle.aes_ctr.proofs.sub_planes.products.Goals as goal

pub returns : goal.returns
unfolding products
returns c = record { wires = refl }
