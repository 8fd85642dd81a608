use Rattle.std.proofs.Common.{◌≡◌, ◌<◌, ℕ, get_or}
use Rattle.comparison.proofs.are_same.Given as goal

abbrev pub invariant-loop-i : goal.invariant-loop-i
invariant-loop-i l = record {
  same : l.difference ≡ 0 → (k : ℕ) → k < l.i → get_or l.left k 0 ≡ get_or l.right k 0;
  differs : l.left ≡ l.right → l.difference ≡ 0;
}
