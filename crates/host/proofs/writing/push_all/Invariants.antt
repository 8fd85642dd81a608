use Rattle.std.proofs.Common.{length, ◌-◌, ◌≡◌, ◌≤◌, take, IsTrue}
use Rattle.host.specs.HostState.{after_push}
use Rattle.host.proofs.writing.push_all.Given as goal

abbrev pub invariant-loop-at : goal.invariant-loop-at
invariant-loop-at g l = record {
  within : l.at ≤ length l.bytes;
  same : g.H.Host.faults l.host ≡ g.H.Host.faults l.fn.host;
  grants : g.H.Host.grants l.host ≡ g.H.Host.grants l.fn.host;
  put : IsTrue g.H.Host.tells → g.H.Host.seen l.host ≡ after_push (take l.at l.bytes) (g.H.Host.seen l.fn.host);
}

abbrev pub decreases-loop-at : goal.decreases-loop-at
decreases-loop-at g l = length l.bytes - l.at
