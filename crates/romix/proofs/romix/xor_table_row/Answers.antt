use Rattle.std.proofs.Common.{◌≡◌, ℕ, List, ◌%◌, arith, refl, ap, ◌∙◌}
use Rattle.four_words.specs.Words.{xored_words}
use Rattle.romix.specs.Inside.Diagonals.{row_in_standard_order}
use Rattle.romix.specs.Romix.{row_of_v}
use Rattle.romix.proofs.Naturals.{row_in_standard_order-xored_words}
use Rattle.romix.proofs.romix.xor_table_row.Goals as goal

pub returns-then-steps-eq0-clause-words : goal.returns-then-steps-eq0-clause-words
unfolding row_of_v
returns-then-steps-eq0-clause-words c =
    let none : c.args.j % c.args.keep ≡ 0 = c.if-steps-eq0.true in
    ap row_in_standard_order c.xor_rows.ensures.words ∙ row_in_standard_order-xored_words _ _ (omega (arith, c.load_table_row-from.ensures.long))
    ∙ rw (none, c.load_table_row-from.ensures.row) refl

pub returns-else-steps-eq0-clause-words : goal.returns-else-steps-eq0-clause-words
returns-else-steps-eq0-clause-words c =
    ap row_in_standard_order c.xor_rows-else-steps-eq0.ensures.words ∙ row_in_standard_order-xored_words _ _ (omega arith)
    ∙ ap (xored_words (row_in_standard_order c.args.row.now))
    (c.recompute_row_of_v.ensures.words ∙ ap (λ (r : List ℕ). row_of_v (row_in_standard_order r) (c.args.j % c.args.keep)) c.load_table_row-from.ensures.row)
