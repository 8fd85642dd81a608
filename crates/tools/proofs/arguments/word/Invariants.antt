use Rattle.std.proofs.Common.{◌-◌, ◌^◌, ◌<◌}
use Rattle.tools.proofs.arguments.word.Given as goal

-- the room grows with each turn
abbrev pub invariant-loop-buf : goal.invariant-loop-buf
invariant-loop-buf g l = 0 < l.room

abbrev pub decreases-loop-buf : goal.decreases-loop-buf
decreases-loop-buf g l = 2 ^ 64 - l.room
