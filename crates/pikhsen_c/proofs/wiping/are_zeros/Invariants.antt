use Rattle.std.proofs.Common.{◌≡◌, length, replicate}
use Rattle.pikhsen_c.proofs.wiping.are_zeros.Given as goal

abbrev pub invariant-loop-block : goal.invariant-loop-block
invariant-loop-block l = l.words ≡ replicate (length l.words) 0 → l.found ≡ replicate 64 0
