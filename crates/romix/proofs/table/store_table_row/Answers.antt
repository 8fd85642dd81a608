use Rattle.std.proofs.Common.{◌≡◌, ◌*◌, ap, arith, length, ◌∙◌}
use Rattle.std.proofs.lemmas.Slice.{take-put_mid_below}
use Rattle.romix.proofs.Rows.{row_below, row_put, rows_below}
use Rattle.romix.proofs.table.store_table_row.Goals as goal

pub returns : goal.returns
returns c =
    let at = c.args.len * c.args.i in
    let same : c.copy_from_slice.new.self ≡ c.args.row.now = c.copy_from_slice.ensures.after in
    record {
      stored = record {
        here = row_put c.args.table.now c.copy_from_slice.new.self c.args.len c.args.i _ (omega (arith, ap length same)) (omega arith) ∙ same;
        below = λ k h.
            row_below c.args.table.now _ c.args.len at k (rows_below c.args.len k c.args.i h)
            (take-put_mid_below at _ c.args.table.now c.copy_from_slice.new.self at (omega arith) (omega arith));
      };
    }
