use Rattle.std.proofs.Common.{◌≡◌, ◌+◌, ◌-◌, ◌*◌, ◌%◌}
use Rattle.romix.specs.BlockMix.{block_count}
use Rattle.romix.specs.Inside.Diagonals.{row_in_standard_order}
use Rattle.romix.specs.Romix.{row_of_v}
use Rattle.romix.proofs.romix.recompute_row_of_v.Given as goal

abbrev pub invariant-pairs : goal.invariant-pairs
invariant-pairs l = record {
  row : row_in_standard_order l.out ≡ row_of_v (row_in_standard_order l.from) (2 - l.steps % 2 + 2 * l._pair);
  count : l.ticks ≡ l.fn.ticks + (2 - l.steps % 2 + 2 * l._pair) * block_count l.from;
}
