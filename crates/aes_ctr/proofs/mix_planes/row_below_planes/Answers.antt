use Rattle.aes_ctr.specs.Inside.PlaneSteps.{row_below_in_plane}
use Rattle.aes_ctr.proofs.Held.{BitPlanesHoldBytes-moved, bits-row_below_in_plane}
use Rattle.aes_ctr.proofs.mix_planes.row_below_planes.Goals as goal

pub returns : goal.returns
returns c = record {
  held = λ b first second. BitPlanesHoldBytes-moved row_below_in_plane bits-row_below_in_plane b c.args.planes c.each_plane.result first second (λ k h. (c.each_plane.ensures.steps k h).1);
}
