use Rattle.std.proofs.Common.{◌≡◌, ℕ, ◌*◌, ◌/◌, ◌<◌, List, length, drop, slice_index}
use Rattle.byteorder.specs.Endian.{little_number}
use Rattle.macs.specs.KeyPair.{Pbkdf2HasPasswordAndSalt}
use Rattle.macs.specs.Pbkdf2.{pbkdf2}
use Rattle.romix.specs.Scrypt.{part_at}
use Rattle.romix.proofs.parts.derive_part.Given as goal

abbrev pub invariant-loop-i : goal.invariant-loop-i
invariant-loop-i l =
    (password salt : List ℕ) → Pbkdf2HasPasswordAndSalt l.salted password salt → (p : ℕ) → l.k < p → (j : ℕ) → j < 8 * l.i
    → slice_index l.row j ≡ little_number 4 (drop (4 * j) (part_at (pbkdf2 password salt (128 * (length l.fn.row / 32) * p)) (length l.fn.row / 32) l.k))
