use Rattle.std.proofs.Common.{◌≡◌, ◌+◌, ◌*◌, take}
use Rattle.romix.specs.BlockMix.{block_mix_x_after, every_second_output}
use Rattle.romix.specs.Inside.Lanes.{words_by_rows}
use Rattle.romix.proofs.block_mix_by_rows.block_mix.Given as goal

abbrev pub invariant-turns : goal.invariant-turns
invariant-turns l = record {
  x : words_by_rows l.x ≡ block_mix_x_after l.input (2 * l.i);
  evens : take (16 * l.i) l.even ≡ every_second_output l.input 0 l.i;
  odds : take (16 * l.i) l.odd ≡ every_second_output l.input 1 l.i;
  count : l.ticks ≡ l.fn.ticks + 2 * l.i;
}
