use Rattle.std.proofs.Common.{◌≡◌}
use Rattle.romix.specs.Inside.Lanes.{words_by_diagonals}
use Rattle.romix.specs.Salsa20.{double_rounds}
use Rattle.romix.proofs.salsa20.core_by_diagonals.Given as goal

abbrev pub invariant-rounds : goal.invariant-rounds
invariant-rounds l = words_by_diagonals l.y ≡ double_rounds l._round (words_by_diagonals l.x)
