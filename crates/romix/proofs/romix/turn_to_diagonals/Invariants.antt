use Rattle.std.proofs.Common.{◌≡◌, ◌*◌, take, drop}
use Rattle.romix.specs.Inside.Diagonals.{blocks_in_standard_order}
use Rattle.romix.proofs.romix.turn_to_diagonals.Given as goal

abbrev pub invariant-loop-i : goal.invariant-loop-i
invariant-loop-i l = record {
  done : blocks_in_standard_order l.i (take (16 * l.i) l.row) ≡ take (16 * l.i) l.fn.row;
  left : drop (16 * l.i) l.row ≡ drop (16 * l.i) l.fn.row;
}
