use Rattle.std.proofs.Common.{◌≡◌, ◌*◌, take, drop}
use Rattle.romix.specs.Inside.Diagonals.{blocks_in_standard_order}
use Rattle.romix.proofs.romix.turn_to_rows.Given as goal

abbrev pub invariant-loop-i : goal.invariant-loop-i
invariant-loop-i l = record {
  done : take (16 * l.i) l.row ≡ blocks_in_standard_order l.i l.fn.row;
  left : drop (16 * l.i) l.row ≡ drop (16 * l.i) l.fn.row;
}
