use Rattle.std.proofs.Common.{◌-◌, ◌+◌, ◌/◌, length, arith, sym}
use Rattle.romix.specs.Inside.Diagonals.{row_in_standard_order}
use Rattle.romix.proofs.Naturals.{length-blocks_in_standard_order, lowest_words}
use Rattle.romix.proofs.Rows.{integerify_low}
use Rattle.romix.proofs.romix.integerify.Goals as goal

pub returns : goal.returns
returns c =
    let w = c.args.row.now in
    let low = lowest_words w c.requires.long c.requires.whole in
    let fits = rw (sym low.1) at (c.type_inv.row (length w - 16 + 13)).fits in
    record {
      number = rw (c.from.ensures, c.from-2.ensures, ← low.0, ← low.1)
          (integerify_low (row_in_standard_order w) c.args.log_n (omega (arith, length-blocks_in_standard_order (length w / 16) w)) c.requires.log_n_high fits);
    }
