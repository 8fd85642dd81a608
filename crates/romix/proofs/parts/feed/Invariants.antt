use Rattle.std.proofs.Common.{◌≡◌, ℕ, ◌*◌, List, ◌++◌, length, take}
use Rattle.macs.specs.KeyPair.{Pbkdf2HasPasswordAndSalt}
use Rattle.romix.specs.Scrypt.{octets_of}
use Rattle.romix.proofs.parts.feed.Given as goal

abbrev pub invariant-loop-i : goal.invariant-loop-i
invariant-loop-i l = record {
  fed : (password salt : List ℕ) → Pbkdf2HasPasswordAndSalt l.fn.pair password salt → Pbkdf2HasPasswordAndSalt l.pair password (salt ++ octets_of (take (16 * l.i) l.row));
  long : length l.octets ≡ 64;
}
