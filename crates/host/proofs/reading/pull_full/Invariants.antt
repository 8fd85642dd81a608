use Rattle.std.proofs.Common.{length, take, ◌-◌, ◌≡◌, ◌≤◌, IsTrue}
use Rattle.host.specs.HostState.{after_pull}
use Rattle.host.proofs.reading.pull_full.Given as goal

abbrev pub invariant-loop-at : goal.invariant-loop-at
invariant-loop-at g l =
    let before = g.H.Host.seen l.fn.host in record {
      long : length l.buf ≡ length l.fn.buf;
      bound : l.at ≤ length l.buf;
      grants : g.H.Host.grants l.host ≡ g.H.Host.grants l.fn.host;
      same : g.H.Host.faults l.host ≡ g.H.Host.faults l.fn.host;
      within : IsTrue g.H.Host.tells → l.at ≤ length before.input;
      bytes : IsTrue g.H.Host.tells → take l.at l.buf ≡ take l.at before.input;
      taken : IsTrue g.H.Host.tells → g.H.Host.seen l.host ≡ after_pull l.at before;
    }

abbrev pub decreases-loop-at : goal.decreases-loop-at
decreases-loop-at g l = length l.buf - l.at
