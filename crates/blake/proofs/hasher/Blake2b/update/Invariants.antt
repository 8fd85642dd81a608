use Rattle.std.proofs.Common.{◌≡◌, ℕ, ◌+◌, ◌-◌, ◌≤◌, List, ◌++◌, length, take}
use Rattle.blake.specs.declared.hasher.Blake2b.{Blake2b}
use Rattle.blake.specs.State.{Holds, hashed_message_len, hash_len}
use Rattle.blake.proofs.hasher.Blake2b.update.Given as goal

-- `now` was handed the first `start` bytes after what `first` was handed
pub record HasTaken (first now : Blake2b) (bytes : List ℕ) (start : ℕ) : Type 0 where
  pub in_bytes : start ≤ length bytes
  pub same_output : hash_len now ≡ hash_len first
  pub count : hashed_message_len now ≡ hashed_message_len first + start
  pub holds : (n : ℕ) (m : List ℕ) → Holds n first m → Holds n now (m ++ take start bytes)

abbrev pub invariant-loop-start : goal.invariant-loop-start
invariant-loop-start l = HasTaken l.fn.self l.self l.bytes l.start

abbrev pub decreases-loop-start : goal.decreases-loop-start
decreases-loop-start l = length l.bytes - l.start
