use Rattle.std.proofs.Common.{◌∙◌, refl}
use Rattle.argon_text.proofs.RangeFaults.{first_of_capped}
use Rattle.argon_text.proofs.range.range_fault_of_fields.Goals as goal

pub returns : goal.returns
returns c = record {
  first = c.first_field_range_fault.ensures.first
      ∙ first_of_capped c.version_of-version.result c.capped-passes.result c.capped-lanes.result c.capped-memory.result _ _ _ _ c.bytes_of-tag_len.result c.bytes_of-salt_len.result
      c.version_of-version.ensures.version c.capped-passes.ensures.value c.capped-lanes.ensures.value c.capped-memory.ensures.value
      ∙ rw (c.bytes_of-tag_len.ensures.len, c.bytes_of-salt_len.ensures.len) refl;
}
