use Rattle.std.proofs.Common.{◌≡◌, ℕ, ◌+◌, ◌*◌, ◌<◌, length, get_or, []}
use Rattle.argon.specs.Argon2.{block_from_h0}
use Rattle.argon.proofs.first_columns.fill_first_two_columns.Given as goal

abbrev pub invariant-loop-lane : goal.invariant-loop-lane
invariant-loop-lane l =
    (length l.blocks ≡ length l.fn.blocks)
    × ((k n : ℕ) → k < l.lane → n < 2 → get_or l.blocks (k * l.lane_len + n) [] ≡ block_from_h0 l.h0 n k)
