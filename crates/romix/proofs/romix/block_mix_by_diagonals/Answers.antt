use Rattle.std.proofs.Common.{◌≡◌, ℕ, List, ◌+◌, ◌*◌, ◌-◌, ◌/◌, ◌++◌, length, take, arith, refl, ap, sym, ◌∙◌}
use Rattle.std.proofs.lemmas.List.{length-append, take_all}
use Rattle.romix.specs.BlockMix.{block_at, block_mix_x_after, every_second_output}
use Rattle.romix.specs.Inside.Diagonals.{block_in_standard_order, blocks_in_standard_order, row_in_standard_order}
use Rattle.romix.specs.Inside.Lanes.{words_by_rows}
use Rattle.romix.proofs.Mixing.{chain_more, every_second_more, mix_is}
use Rattle.romix.proofs.Naturals.{block_at-blocks_in_standard_order, blocks_in_standard_order-written, length-blocks_in_standard_order, blocks_in_standard_order-append}
use Rattle.romix.proofs.romix.block_mix_by_diagonals.Goals as goal

pub turns-init : goal.turns-init
unfolding block_mix_x_after every_second_output blocks_in_standard_order
turns-init c =
    let b : List ℕ = c.args.input.now in
    let n : ℕ = length b / 16 in
    let long = length-blocks_in_standard_order n b in
    let last : 2 * (length b / 32) - 1 ≡ length (row_in_standard_order b) / 16 - 1 = omega (arith, long) in
    record {
      x = ap block_in_standard_order c.load-x.ensures.words ∙ sym (block_at-blocks_in_standard_order n b (2 * (length b / 32) - 1) (omega arith)) ∙ ap (block_at (row_in_standard_order b)) last;
      evens = refl;
      odds = refl;
      count = omega arith;
    }

pub turns-preserved : goal.turns-preserved
turns-preserved c =
    let i : ℕ = c.turns.i in
    let b : List ℕ = c.args.input.now in
    let row : List ℕ = row_in_standard_order b in
    let n : ℕ = length b / 16 in
    let here = ap block_in_standard_order c.load.ensures.words ∙ sym (block_at-blocks_in_standard_order n b (2 * i) (omega arith)) in
    let next = ap block_in_standard_order c.load-in-turns.ensures.words ∙ sym (block_at-blocks_in_standard_order n b (2 * i + 1) (omega arith)) in
    let even : List ℕ = words_by_rows c.core_by_diagonals-x.result in
    let odd : List ℕ = words_by_rows c.core_by_diagonals-x-in-turns.result in
    let one = chain_more row _ _ _ _ (2 * i) (2 * i + 1) c.turns.invariant.x here c.xor.ensures.diagonals c.core_by_diagonals-x.ensures.words refl in
    let two = chain_more row _ _ _ _ (2 * i + 1) (2 * (i + 1)) one next c.xor-in-turns.ensures.diagonals c.core_by_diagonals-x-in-turns.ensures.words (omega arith) in
    record {
      x = two;
      evens = blocks_in_standard_order-written c.turns.even c.store.new.row even i (omega arith) refl c.store.ensures.front
          ∙ every_second_more row _ _ 0 i (2 * i + 1) c.turns.invariant.evens one (omega arith);
      odds = blocks_in_standard_order-written c.turns.odd c.store-in-turns.new.row odd i (omega arith) refl c.store-in-turns.ensures.front
          ∙ every_second_more row _ _ 1 i (2 * (i + 1)) c.turns.invariant.odds two (omega arith);
      count = omega arith;
    }

pub returns-clause-words : goal.returns-clause-words
returns-clause-words c =
    let b : List ℕ = c.args.input.now in
    let n : ℕ = c.turns.i in
    let long = length-blocks_in_standard_order (length b / 16) b in
    let evens : take (16 * n) c.turns.even ≡ c.turns.even = take_all _ _ (omega arith) in
    let odds : take (16 * n) c.turns.odd ≡ c.turns.odd = take_all _ _ (omega arith) in
    let halves = blocks_in_standard_order-append n n (length b / 16) c.turns.even c.turns.odd (omega arith) (omega arith) in
    let all : List ℕ = c.turns.even ++ c.turns.odd in
    let same : length all / 16 ≡ length b / 16 = omega (arith, length-append c.turns.even c.turns.odd) in
    ap (λ (k : ℕ). blocks_in_standard_order k all) same ∙ halves
    ∙ mix_is (row_in_standard_order b) _ _ n (omega (arith, long)) (ap (blocks_in_standard_order n) (sym evens) ∙ c.turns.invariant.evens)
    (ap (blocks_in_standard_order n) (sym odds) ∙ c.turns.invariant.odds)
