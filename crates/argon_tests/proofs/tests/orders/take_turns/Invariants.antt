use Rattle.std.proofs.Common.{◌≡◌}
use Rattle.argon_tests.proofs.tests.orders.take_turns.Given as goal

abbrev pub invariant-loop-lane : goal.invariant-loop-lane
invariant-loop-lane l = l.weave.matrix ≡ record l.fn.weave.matrix { blocks = l.weave.matrix.blocks }
