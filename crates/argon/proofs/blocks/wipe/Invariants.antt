use Rattle.std.proofs.Common.{◌≡◌, replicate, take}
use Rattle.argon.proofs.blocks.wipe.Given as goal

abbrev pub invariant-loop-i : goal.invariant-loop-i
invariant-loop-i l = take l.i l.blocks ≡ replicate l.i (replicate 128 0)
