use Rattle.std.proofs.Common.{◌≡◌, ℕ, List, arith, refl, ap, ◌∙◌, add-one}
use Rattle.romix.specs.Inside.Lanes.{words_by_diagonals}
use Rattle.romix.specs.Salsa20.{double_rounds, salsa20_8, word_sums}
use Rattle.romix.proofs.FourLanes.{sixteen_sums}
use Rattle.romix.proofs.salsa20.core_by_diagonals.Goals as goal

pub rounds-init : goal.rounds-init
unfolding double_rounds
rounds-init c = refl

pub rounds-preserved : goal.rounds-preserved
unfolding double_rounds
rounds-preserved c =
    rw (add-one c.rounds._round, c.row_round-y.ensures.words, c.column_round.ensures.words, c.rounds.invariant)

pub returns-clause-words : goal.returns-clause-words
unfolding salsa20_8
returns-clause-words c =
    let turns : c.rounds._round ≡ 4 = omega arith in
    let words : List ℕ = words_by_diagonals c.args.x in
    sixteen_sums c.args.x c.rounds.y _ c.add.ensures.lanes c.add-2.ensures.lanes c.add-3.ensures.lanes c.add-4.ensures.lanes
    ∙ ap (word_sums words) (c.rounds.invariant ∙ ap (λ (n : ℕ). double_rounds n words) turns)
