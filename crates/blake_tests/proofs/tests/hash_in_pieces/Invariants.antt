use Rattle.std.proofs.Common.{◌≡◌, ◌-◌, ◌≤◌, length}
use Rattle.blake.specs.State.{hashed_message_len, hash_len}
use Rattle.blake_tests.proofs.tests.hash_in_pieces.Given as goal

abbrev pub invariant-loop-start : goal.invariant-loop-start
invariant-loop-start l =
    (hash_len l.hash ≡ length l.out) × (hashed_message_len l.hash ≡ l.start) × (l.start ≤ length l.message)

abbrev pub decreases-loop-start : goal.decreases-loop-start
decreases-loop-start l = length l.message - l.start
