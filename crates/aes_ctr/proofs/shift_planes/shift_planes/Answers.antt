use Rattle.aes_ctr.specs.Aes.{shift_rows}
use Rattle.aes_ctr.proofs.Held.{BitPlanesHoldBytes-moved, bits-shift_rows}
use Rattle.aes_ctr.proofs.shift_planes.shift_planes.Goals as goal

pub returns : goal.returns
returns c = record {
  held = λ b first second. BitPlanesHoldBytes-moved shift_rows bits-shift_rows b c.args.planes c.each_plane.result first second (λ k h. (c.each_plane.ensures.steps k h).1);
}
