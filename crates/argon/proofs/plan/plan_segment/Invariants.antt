use Rattle.std.proofs.Common.{◌≡◌, ◌+◌, ◌*◌, length}
use Rattle.argon.specs.Inside.Planning.{AreReferencesPlanned}
use Rattle.argon.specs.Inside.Segment.{index_in_segment_after_parts}
use Rattle.argon.proofs.plan.plan_segment.Given as goal

abbrev pub invariant-loop-part : goal.invariant-loop-part
invariant-loop-part l =
    (length l.out ≡ length l.fn.out) × (l.ticks ≡ l.fn.ticks + 2 * l.part)
    × AreReferencesPlanned l.params l.segment l.fn.out l.out (index_in_segment_after_parts l.segment l.part)
