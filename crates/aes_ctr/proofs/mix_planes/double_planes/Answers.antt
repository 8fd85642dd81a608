use Rattle.aes_ctr.proofs.Doubles.{BitPlanesHoldBytes-double}
use Rattle.aes_ctr.proofs.mix_planes.double_planes.Goals as goal

pub returns : goal.returns
returns c = record { held = λ b block. BitPlanesHoldBytes-double b c.args.planes block }
