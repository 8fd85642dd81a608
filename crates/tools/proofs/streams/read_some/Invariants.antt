-- An interrupted read takes nothing, and is counted.
use Rattle.std.proofs.Common.{IsTrue}
use Rattle.tools.proofs.Failing.{HasFailed}
use Rattle.tools.proofs.Parts.{IsInterrupted}
use Rattle.tools.proofs.streams.read_some.Given as goal

abbrev pub invariant-loop : goal.invariant-loop
invariant-loop g l = IsTrue g.S.System.tells →
    HasFailed l.reading l.counter (g.S.System.failures l.initial.system) (g.S.System.failures l.system)
    × IsInterrupted l.counter (g.S.System.state l.initial.system)
    (g.S.System.state l.system) (g.S.System.files l.initial.system) (g.S.System.files l.system)
    (g.S.System.tries l.initial.system) (g.S.System.tries l.system)
