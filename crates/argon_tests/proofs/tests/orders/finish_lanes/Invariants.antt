use Rattle.std.proofs.Common.{◌≡◌, ℕ, ◌<◌, slice_index}
use Rattle.argon_tests.proofs.tests.orders.finish_lanes.Given as goal

abbrev pub invariant-loop-lane : goal.invariant-loop-lane
invariant-loop-lane l =
    (l.weave.matrix ≡ record l.fn.weave.matrix { blocks = l.weave.matrix.blocks })
    × ((k : ℕ) → k < l.lane → slice_index l.weave.left k ≡ 0)
