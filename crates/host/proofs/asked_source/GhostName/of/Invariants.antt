use Rattle.std.proofs.Common.{◌≡◌, ◌≤◌, length, drop}
use Rattle.host.specs.AskedSource.{name_bytes}
use Rattle.host.proofs.asked_source.GhostName.of.Given as goal

abbrev pub invariant-loop-at : goal.invariant-loop-at
invariant-loop-at l = record {
  within : l.at ≤ length l.bytes;
  last : name_bytes l.name ≡ drop l.at l.bytes;
}

abbrev pub decreases-loop-at : goal.decreases-loop-at
decreases-loop-at l = l.at
