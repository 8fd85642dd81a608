use Rattle.std.proofs.Common.{rules, ◌<◌, arith}
use Rattle.argon.specs.Counts.{first_index}
use Rattle.argon.proofs.Planning.{plan_more}
use Rattle.argon.proofs.Progress.{part_of, first_index-le}
use Rattle.argon.proofs.plan.plan_columns_of_address_block.Goals as goal

pub loop-index-preserved : goal.loop-index-preserved
loop-index-preserved c =
    let at = c.args.segment.now in
    let i = c.loop-index.index in
    let p = part_of (first_index at.pass at.slice) at.len c.args.part i (first_index-le at.pass at.slice) c.requires.parts
    (omega (arith, c.segment_index_after_parts-from.ensures.value)) (omega (arith, c.segment_index_after_parts-to.ensures.value)) in
    let below : i < at.len = p.1 c.requires.valid.long in (
      search rules,
      plan_more at c.args.addresses.now c.args.out.now c.loop-index.out c.segment_index_after_parts-from.result i c.reference_place.result
          (omega (arith, c.requires.size, c.loop-index.invariant.0)) (omega arith) c.reference_place.ensures.value c.loop-index.invariant.1,
    )
