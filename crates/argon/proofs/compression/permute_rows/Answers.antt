use Rattle.std.proofs.Common.{◌≡◌, ◌*◌, arith, refl, ◌∙◌, ap}
use Rattle.argon.proofs.RowsAndColumns.{all_rows, rows_into, rows_more}
use Rattle.argon.proofs.compression.permute_rows.Goals as goal

pub rows-init : goal.rows-init
unfolding rows_into
rows-init c = (omega arith, refl)

pub rows-preserved : goal.rows-preserved
rows-preserved c =
    (omega arith, c.permute_four_rows.ensures.value ∙ rw c.rows.invariant.1 (rows_more c.args.from.now c.args.into.now c.rows.i))

pub returns : goal.returns
returns c = record {
  value = let all : 4 * c.rows.i ≡ 8 = omega arith in
      c.rows.invariant.1 ∙ ap (rows_into c.args.from.now c.args.into.now) all ∙ all_rows c.args.from.now c.args.into.now (omega arith) (omega arith);
}
