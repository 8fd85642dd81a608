use Rattle.std.proofs.Common.{◌≡◌, ℕ, ◌+◌, ◌*◌, ◌<◌, ◌^◌, length}
use Rattle.romix.specs.BlockMix.{block_count}
use Rattle.romix.specs.Inside.Diagonals.{row_in_standard_order}
use Rattle.romix.specs.Romix.{romix_row_after_turns, row_of_v}
use Rattle.romix.specs.Sparse.{mix_count_from_kept_rows}
use Rattle.romix.specs.Inside.Table.{row_at}
use Rattle.romix.proofs.romix.romix.Given as goal

abbrev pub invariant-fill : goal.invariant-fill
invariant-fill l = record {
  row : row_in_standard_order l.row ≡ row_of_v l.fn.row (2 * l.i);
  rows : (k : ℕ) → l.keep * k < 2 * l.i → row_in_standard_order (row_at l.table (length l.fn.row) k) ≡ row_of_v l.fn.row (l.keep * k);
  count : l.ticks ≡ l.fn.ticks + 2 * l.i * block_count l.fn.row;
}

abbrev pub invariant-turns : goal.invariant-turns
invariant-turns l = record {
  row : row_in_standard_order l.row ≡ romix_row_after_turns l.fn.row (2 ^ l.log_n) (2 * l.turn);
  count : l.ticks ≡ l.fn.ticks + (2 ^ l.log_n + 2 * l.turn + mix_count_from_kept_rows l.fn.row (2 ^ l.log_n) l.keep (2 * l.turn)) * block_count l.fn.row;
}
