use Rattle.std.proofs.Common.{◌≡◌, ◌*◌, arith, refl, ◌∙◌, ap}
use Rattle.argon.specs.Compression.{block_after_columns}
use Rattle.argon.proofs.RowsAndColumns.{columns_more}
use Rattle.argon.proofs.compression.permute_columns.Goals as goal

pub columns-init : goal.columns-init
unfolding block_after_columns
columns-init c = (omega arith, refl)

pub columns-preserved : goal.columns-preserved
columns-preserved c =
    (omega arith, c.permute_four_columns.ensures.value ∙ rw c.columns.invariant.1 (columns_more c.args.block.now c.columns.i))

pub returns : goal.returns
returns c = record {
  value = let all : 4 * c.columns.i ≡ 8 = omega arith in
      c.columns.invariant.1 ∙ ap (block_after_columns c.args.block.now) all;
}
