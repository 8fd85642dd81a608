use Rattle.std.proofs.Common.{rules, ◌≡◌, ◌<◌, ◌≤◌, Bool, true, sym, ap, arith, ◌∙◌}
use Rattle.argon.specs.Counts.{address_work, first_index}
use Rattle.argon.specs.Parameters.{segment_len}
use Rattle.argon.specs.Inside.Segment.{index_in_segment_after_parts}
use Rattle.argon.proofs.Independent.{made_as_planned}
use Rattle.argon.proofs.Planning.{part_more}
use Rattle.argon.proofs.Progress.{first_index-le}
use Rattle.argon.proofs.ReadPlaces.{made_along_plan}
use Rattle.argon.proofs.plan.plan_segment.Goals as goal

pub loop-part-preserved : goal.loop-part-preserved
loop-part-preserved c =
    let at = c.new-segment.result in
    let place = c.new-segment.ensures in
    let free : c.new-segment.result.is_independent ≡ true =
    sym c.new-segment.ensures.is_of.independent ∙ rw (place.pass, place.slice) c.requires.independent in
    let two : address_work c.new-segment.result.is_independent 1 ≡ 2 = ap (λ (b : Bool). address_work b 1) free in (
      search rules,
      omega (arith, two, c.prepare_addresses.ensures.count, c.loop-part.invariant.1),
      part_more c.args.params.now at c.args.out.now c.loop-part.out c.plan_columns_of_address_block.new.out c.loop-part.part c.prepare_addresses.new.addresses
          c.new-segment.ensures.is_of c.new-segment.ensures.valid.long (omega (arith, c.address_block_count-part-end.ensures.value))
          (c.prepare_addresses.ensures.value free) c.plan_columns_of_address_block.ensures.planned c.loop-part.invariant.2,
    )

pub returns-clause-planned : goal.returns-clause-planned
returns-clause-planned c = λ index low high.
    let at = c.new-segment.result in
    let place = c.new-segment.ensures in
    let small : first_index at.pass at.slice ≤ 2 = first_index-le at.pass at.slice in
    let first : first_index at.pass at.slice ≤ index = rw (place.pass, place.slice) low in
    let within : index < at.len = rw (← c.new-segment.ensures.is_of.len) high in
    let end : index < index_in_segment_after_parts at c.loop-part.part = omega (arith, c.address_block_count-part-end.ensures.value) in
    rw (← place.pass, ← place.slice, ← place.lane) (c.loop-part.invariant.2.planned index first end)

pub returns-clause-kept : goal.returns-clause-kept
returns-clause-kept c = λ index low.
    let at = c.new-segment.result in
    let place = c.new-segment.ensures in
    let first : index < first_index at.pass at.slice = rw (place.pass, place.slice) low in
    c.loop-part.invariant.2.kept index first

pub returns-clause-count : goal.returns-clause-count
returns-clause-count c =
    rw (c.new-segment.ensures.is_of.len) (omega (arith, c.loop-part.invariant.1, c.address_block_count-part-end.ensures.value))

pub returns-clause-made : goal.returns-clause-made
returns-clause-made c = λ h0 index low high.
    let long : 2 ≤ segment_len c.args.params.now = rw c.new-segment.ensures.is_of.len c.new-segment.ensures.valid.long in
    made_as_planned c.args.params.now h0 c.args.pass c.args.lane c.args.slice index long c.requires.slices c.requires.lanes c.requires.independent low high

pub returns-clause-along : goal.returns-clause-along
returns-clause-along c = λ h0 blocks next index low high.
    let long : 2 ≤ segment_len c.args.params.now = rw c.new-segment.ensures.is_of.len c.new-segment.ensures.valid.long in
    made_along_plan c.args.params.now h0 blocks next c.args.pass c.args.lane c.args.slice index
    (record { long = long; lanes = c.requires.lanes; slices = c.requires.slices; from = low; to = high }) c.requires.independent
