use Rattle.aes_ctr.proofs.Wires.{BitPlanesHoldBytes-sub_bytes}
use Rattle.aes_ctr.proofs.sub_planes.sub_planes.Goals as goal

pub returns : goal.returns
returns c = record {
  held =
      λ b small first second ok also. BitPlanesHoldBytes-sub_bytes b first second small ok also c.args.planes c.s_box_input_sums-sums.result c.norm.result c.inverse_of_norm.result c.products.result c.output_wires.result
      c.s_box_input_sums-sums.ensures.wires c.norm.ensures.wires c.inverse_of_norm.ensures.wires c.products.ensures.wires c.output_wires.ensures.wires;
}
