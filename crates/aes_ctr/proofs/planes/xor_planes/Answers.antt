use Rattle.aes_ctr.proofs.Held.{BitPlanesHoldBytes-xor}
use Rattle.aes_ctr.proofs.planes.xor_planes.Goals as goal

pub returns : goal.returns
returns c = record { held = λ b first second. BitPlanesHoldBytes-xor b c.args.left c.args.right first second }
