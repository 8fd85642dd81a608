use Rattle.std.proofs.Common.{◌≡◌, ℕ, List, ◌+◌, ◌-◌, ◌*◌, ◌%◌, arith, refl, ap, ◌∙◌}
use Rattle.romix.specs.Inside.Diagonals.{row_in_standard_order}
use Rattle.romix.specs.Romix.{row_of_v}
use Rattle.romix.proofs.Rows.{table_row_more}
use Rattle.romix.proofs.Kept.{first_row}
use Rattle.romix.proofs.romix.recompute_row_of_v.Goals.{then-steps-eq1, else-steps-eq1}
use Rattle.romix.proofs.romix.recompute_row_of_v.Goals as goal

pub pairs-init : goal.pairs-init
pairs-init c =
    let b : List ℕ = row_in_standard_order c.args.from.now in
    elim c.if-steps-eq1.branch [
      | then-steps-eq1 w ↦ record {
        row = first_row b _ _ (ap row_in_standard_order w.out-is ∙ w.block_mix_by_diagonals.ensures.words) (omega (arith, w.if-steps-eq1.true));
        count = rw (w.if-steps-eq1.true, w.ticks-is) (omega (arith, w.block_mix_by_diagonals.ensures.count));
      }
      | else-steps-eq1 w ↦
          let even : c.args.steps % 2 ≡ 0 = omega (arith, w.if-steps-eq1.false) in
          record {
            row = table_row_more b _ _ 1 _ (first_row b _ 1 w.block_mix_by_diagonals-else-steps-eq1.ensures.words refl) (ap row_in_standard_order w.out-is ∙ w.block_mix_by_diagonals-else-steps-eq1-2.ensures.words) (omega (arith, even));
            count = rw (even, w.ticks-is) (omega (arith, w.block_mix_by_diagonals-else-steps-eq1.ensures.count, w.block_mix_by_diagonals-else-steps-eq1-2.ensures.count));
          }
    ]

pub pairs-preserved : goal.pairs-preserved
pairs-preserved c =
    let b : List ℕ = row_in_standard_order c.args.from.now in
    let done : ℕ = 2 - c.args.steps % 2 + 2 * c.pairs._pair in
    let one : row_in_standard_order c.block_mix_by_diagonals-in-pairs.new.out ≡ row_of_v b (done + 1) = table_row_more b _ _ done (done + 1) c.pairs.invariant.row c.block_mix_by_diagonals-in-pairs.ensures.words refl in
    record {
      row = table_row_more b _ _ (done + 1) (2 - c.args.steps % 2 + 2 * (c.pairs._pair + 1)) one c.block_mix_by_diagonals-in-pairs-2.ensures.words (omega arith);
      count = omega (arith, c.pairs.invariant.count, c.block_mix_by_diagonals-in-pairs.ensures.count, c.block_mix_by_diagonals-in-pairs-2.ensures.count);
    }
