use Rattle.std.proofs.Common.{◌≡◌, ℕ, ◌*◌, List, length, min, take}
use Rattle.macs.specs.Hmac.{Holds}
use Rattle.macs.specs.Pbkdf2.{joined_blocks}
use Rattle.macs.proofs.pbkdf2_sha256.write_key.Given as goal

abbrev pub invariant-loop-done : goal.invariant-loop-done
invariant-loop-done l =
    let filled = min (32 * l.done) (length l.fn.out) in
    (password salt : List ℕ) → Holds l.salted password salt → take filled l.out ≡ take filled (joined_blocks password salt l.done)
