use Rattle.std.proofs.Common.{◌≡◌, ℕ, List, ◌*◌, ◌/◌, length, take, refl, arith, ap, ◌∙◌, sym}
use Rattle.std.proofs.lemmas.List.{take_all}
use Rattle.romix.specs.Inside.Diagonals.{block_in_standard_order, blocks_in_standard_order}
use Rattle.romix.proofs.Naturals.{blocks_in_standard_order-more}
use Rattle.romix.proofs.XoredBlocks.{block_left}
use Rattle.romix.proofs.romix.turn_to_rows.Goals as goal

pub loop-i-init : goal.loop-i-init
unfolding blocks_in_standard_order
loop-i-init c = record { done = refl; left = refl }

pub loop-i-preserved : goal.loop-i-preserved
loop-i-preserved c =
    let i : ℕ = c.loop-i.i in
    let old : List ℕ = c.args.row.now in
    let here = c.to_rows-turned.ensures.words ∙ ap block_in_standard_order (c.load.ensures.words ∙ ap (take 16) c.loop-i.invariant.left) in
    record {
      done = c.store.ensures.front ∙ rw (c.loop-i.invariant.done, here) (sym (blocks_in_standard_order-more i old));
      left = block_left old c.loop-i.row c.store.new.row i c.loop-i.invariant.left c.store.ensures.rest;
    }

pub returns : goal.returns
returns c =
    let old : List ℕ = c.args.row.now in
    let row : List ℕ = c.loop-i.row in
    let i : ℕ = c.loop-i.i in
    let n : i ≡ length old / 16 = omega arith in
    record { words = sym (take_all (16 * i) row (omega arith)) ∙ c.loop-i.invariant.done ∙ ap (λ (k : ℕ). blocks_in_standard_order k old) n }
