use Rattle.tools.specs.Failures.{AreNoFewer}
use Rattle.std.proofs.Common.{length, ◌-◌, ◌≡◌, ◌≤◌, IsTrue}
use Rattle.tools.proofs.Parts.{IsRead}
use Rattle.tools.proofs.streams.read_full.Given as goal

abbrev pub invariant-loop-at : goal.invariant-loop-at
invariant-loop-at g l = (l.at ≤ length l.buf)
    × (IsTrue g.S.System.tells → IsRead l.reading l.at l.buf (g.S.System.state l.initial.system) (g.S.System.state l.system))
    × (IsTrue g.S.System.tells → g.S.System.files l.system ≡ g.S.System.files l.initial.system)
    × (IsTrue g.S.System.tells → AreNoFewer (g.S.System.failures l.initial.system) (g.S.System.failures l.system))

abbrev pub decreases-loop-at : goal.decreases-loop-at
decreases-loop-at g l = length l.initial.buf - l.at
