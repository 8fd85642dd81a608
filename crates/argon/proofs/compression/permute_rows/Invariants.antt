use Rattle.std.proofs.Common.{◌≡◌, ◌*◌, length}
use Rattle.argon.proofs.RowsAndColumns.{rows_into}
use Rattle.argon.proofs.compression.permute_rows.Given as goal

abbrev pub invariant-rows : goal.invariant-rows
invariant-rows l = (length l.into ≡ 128) × (l.into ≡ rows_into l.from l.fn.into (4 * l.i))
