use Rattle.std.proofs.Common.{rules, ◌≡◌, ℕ, ◌+◌, ◌*◌, ◌<◌, ◌≤◌, length, sym, arith, ap}
use Rattle.argon.proofs.Buffer.{place-lt}
use Rattle.argon.proofs.FirstColumns.{first_columns_more, columns_newest}
use Rattle.argon.proofs.first_columns.fill_first_two_columns.Goals as goal

pub loop-lane-preserved : goal.loop-lane-preserved
loop-lane-preserved c =
    let q = 4 * c.segment_len.result in
    let room : c.lanes-lane-end.result * (4 * c.segment_len.result) ≡ length c.args.blocks.now =
    rw (c.lanes-lane-end.ensures.value, c.segment_len.ensures.value) (sym c.requires.size) in
    let fits : c.loop-lane.lane * (4 * c.segment_len.result) + 1 < c.lanes-lane-end.result * (4 * c.segment_len.result) =
    place-lt c.lanes-lane-end.result (4 * c.segment_len.result) c.loop-lane.lane 1 (omega arith) (omega (arith, c.segment_len.ensures.long)) in (
      search rules,
      first_columns_more c.args.h0.now c.loop-lane.blocks (4 * c.segment_len.result) c.loop-lane.lane _ _ (omega (arith, c.segment_len.ensures.long))
          (omega (arith, room, c.loop-lane.invariant.0)) c.put_block_from_h0.ensures.value c.put_block_from_h0-in-loop-lane.ensures.value c.loop-lane.invariant.1,
    )

pub returns-clause-newest : goal.returns-clause-newest
returns-clause-newest c =
    let long : 2 ≤ c.segment_len.result = c.segment_len.ensures.long in
    columns_newest c.args.params.now c.args.h0.now c.loop-lane.blocks (4 * c.segment_len.result) c.loop-lane.lane
    (rw (← c.segment_len.ensures.value) long) (ap (λ (x : ℕ). 4 * x) c.segment_len.ensures.value)
    (omega (arith, c.lanes-lane-end.ensures.value)) c.loop-lane.invariant.1
