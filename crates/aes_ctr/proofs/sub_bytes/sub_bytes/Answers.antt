use Rattle.std.proofs.Common.{◌∙◌}
use Rattle.aes_ctr.specs.Inside.TableParts.{s_box_part_entry}
use Rattle.aes_ctr.proofs.Bytes.{HasLowBits-128}
use Rattle.aes_ctr.proofs.Lookup.{map-choice-s_box_part_entry, map-s_box_part_entry-whole}
use Rattle.aes_ctr.proofs.Sixteen.{map-sub_byte}
use Rattle.aes_ctr.proofs.sub_bytes.sub_bytes.Goals as goal

pub returns : goal.returns
returns c = record {
  state =
      c.select_by_bit.ensures.choice (s_box_part_entry 128 1) (s_box_part_entry 128 0) c.s_box_half_lookup.ensures.entries c.s_box_half_lookup-2.ensures.entries
      ∙ map-choice-s_box_part_entry 128 0 HasLowBits-128 c.args.state c.fits-state.1 ∙ map-s_box_part_entry-whole c.args.state c.fits-state.1
      ∙ map-sub_byte c.args.state c.fits-state.0;
}
