use Rattle.std.proofs.Common.{◌≡◌, ◌*◌, length}
use Rattle.argon.specs.Compression.{block_after_columns}
use Rattle.argon.proofs.compression.permute_columns.Given as goal

abbrev pub invariant-columns : goal.invariant-columns
invariant-columns l = (length l.block ≡ 128) × (l.block ≡ block_after_columns l.fn.block (4 * l.i))
