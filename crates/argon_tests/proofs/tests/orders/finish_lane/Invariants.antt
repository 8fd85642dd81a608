use Rattle.std.proofs.Common.{◌≡◌, ◌≢◌, ℕ, ◌-◌, slice_index}
use Rattle.argon_tests.proofs.tests.orders.finish_lane.Given as goal

abbrev pub invariant-loop : goal.invariant-loop
invariant-loop l =
    (l.weave.matrix ≡ record l.fn.weave.matrix { blocks = l.weave.matrix.blocks })
    × (slice_index l.weave.left l.lane ≡ slice_index l.fn.weave.left l.lane - l.counter)
    × ((other : ℕ) → other ≢ l.lane → slice_index l.weave.left other ≡ slice_index l.fn.weave.left other)
