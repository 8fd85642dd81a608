use Rattle.std.proofs.Common.{◌≡◌, ◌+◌, ◌*◌, take}
use Rattle.romix.specs.BlockMix.{block_mix_x_after, every_second_output}
use Rattle.romix.specs.Inside.Diagonals.{blocks_in_standard_order, row_in_standard_order}
use Rattle.romix.specs.Inside.Lanes.{words_by_diagonals}
use Rattle.romix.proofs.romix.block_mix_by_diagonals.Given as goal

abbrev pub invariant-turns : goal.invariant-turns
invariant-turns l = record {
  x : words_by_diagonals l.x ≡ block_mix_x_after (row_in_standard_order l.input) (2 * l.i);
  evens : blocks_in_standard_order l.i (take (16 * l.i) l.even) ≡ every_second_output (row_in_standard_order l.input) 0 l.i;
  odds : blocks_in_standard_order l.i (take (16 * l.i) l.odd) ≡ every_second_output (row_in_standard_order l.input) 1 l.i;
  count : l.ticks ≡ l.fn.ticks + 2 * l.i;
}
