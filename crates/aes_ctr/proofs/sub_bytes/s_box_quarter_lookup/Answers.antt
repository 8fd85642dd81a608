use Rattle.std.proofs.Common.{◌+◌, ◌*◌, ◌∙◌}
use Rattle.aes_ctr.specs.Inside.TableParts.{s_box_part_entry}
use Rattle.aes_ctr.proofs.Bytes.{HasLowBits-32}
use Rattle.aes_ctr.proofs.Lookup.{map-choice-s_box_part_entry}
use Rattle.aes_ctr.proofs.sub_bytes.s_box_quarter_lookup.Goals as goal

pub returns : goal.returns
returns c = record {
  entries =
      c.select_by_bit.ensures.choice (s_box_part_entry 32 (2 * c.args.n + 1)) (s_box_part_entry 32 (2 * c.args.n)) c.s_box_eighth_lookup.ensures.entries c.s_box_eighth_lookup-2.ensures.entries
      ∙ map-choice-s_box_part_entry 32 c.args.n HasLowBits-32 c.args.bytes c.fits-bytes.1;
}
