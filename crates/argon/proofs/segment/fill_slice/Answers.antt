use Rattle.std.proofs.Common.{rules, ◌≡◌, ◌<◌, replicate, refl, sym, ap, ◌∙◌, arith}
use Rattle.argon.specs.Counts.{segment_work}
use Rattle.argon.specs.Parameters.{Parameters}
use Rattle.argon.specs.Woven.{all_blocks_in_slice_progress}
use Rattle.argon.proofs.Woven.{are_left_after, first_lane, lane_more, last_lane, left_after_lanes, left_whole}
use Rattle.argon.proofs.segment.fill_slice.Goals as goal

pub loop-lane-init : goal.loop-lane-init
loop-lane-init c = (
  refl,
  omega arith,
  λ matrix next start. start ∙ first_lane matrix c.args.params.now c.args.pass c.args.slice next,
)

pub loop-lane-preserved : goal.loop-lane-preserved
loop-lane-preserved c =
    let at = c.new.result in
    let d = c.args.params.now in
    let place = c.new.ensures in
    let work : segment_work d at.pass at.slice ≡ segment_work d c.args.pass c.args.slice = rw (place.pass, place.slice) refl in
    let known : c.loop-lane.lane < c.args.params.now.lanes = omega (arith, c.lanes-lane-end.ensures.value) in (
      search rules,
      omega (arith, work, c.fill_segment.ensures.count),
      λ matrix next start.
          (rw (place.pass, place.slice, place.lane) at c.fill_segment.ensures.made) matrix (left_after_lanes d c.args.pass c.args.slice c.loop-lane.lane) next
          (are_left_after d c.args.pass c.args.slice c.loop-lane.lane) (left_whole d c.args.pass c.args.slice c.loop-lane.lane known)
          (c.loop-lane.invariant.2 matrix next start)
          ∙ ap (all_blocks_in_slice_progress matrix) (lane_more d c.args.pass c.args.slice c.loop-lane.lane known),
    )

pub returns-clause-made : goal.returns-clause-made
returns-clause-made c = λ matrix next start.
    let d = c.args.params.now in
    let none = last_lane d c.args.pass c.args.slice c.loop-lane.lane (omega (arith, c.lanes-lane-end.ensures.value)) in
    c.loop-lane.invariant.2 matrix next start
    ∙ ap (all_blocks_in_slice_progress matrix) (none ∙ ap (λ (parameters : Parameters). replicate parameters.lanes 0) (sym next.is_of))
