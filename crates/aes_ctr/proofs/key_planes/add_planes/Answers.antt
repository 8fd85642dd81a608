use Rattle.std.proofs.Common.{◌*◌, ◌++◌, ℕ, List, bit_xor, sym, ◌∙◌}
use Rattle.aes_ctr.specs.Planes.{round_key}
use Rattle.aes_ctr.proofs.Held.{BitPlanesHoldBytes-dropped}
use Rattle.aes_ctr.proofs.Pairs.{zip2-append}
use Rattle.aes_ctr.proofs.Sixteen.{length-round_key, xor-round_key}
use Rattle.aes_ctr.proofs.key_planes.add_planes.Goals as goal

pub returns : goal.returns
returns c = record {
  held =
      λ words b key first second ok also state.
      let added : List ℕ = round_key words c.args.round in
      rw (zip2-append bit_xor first second added added (ok.0 ∙ sym (length-round_key words c.args.round)), xor-round_key words c.args.round first ok.0, xor-round_key words c.args.round second also.0)
      at (c.xor_planes.ensures.held b (first ++ second) (added ++ added) state
      (BitPlanesHoldBytes-dropped b (8 * c.args.round) c.args.keys.now added
      c.bit_plane_for_both_blocks.ensures.twice c.bit_plane_for_both_blocks-2.ensures.twice c.bit_plane_for_both_blocks-3.ensures.twice c.bit_plane_for_both_blocks-4.ensures.twice
      c.bit_plane_for_both_blocks-5.ensures.twice c.bit_plane_for_both_blocks-6.ensures.twice c.bit_plane_for_both_blocks-7.ensures.twice c.bit_plane_for_both_blocks-8.ensures.twice key));
}
