use Rattle.std.proofs.Common.{◌≡◌, ℕ, List, ◌*◌, ◌/◌, ◌++◌, length, take, refl, arith, ap, ◌∙◌, sym}
use Rattle.std.proofs.lemmas.List.{take_all}
use Rattle.romix.specs.BlockMix.{block_at}
use Rattle.romix.specs.Inside.Diagonals.{blocks_in_standard_order}
use Rattle.romix.specs.Inside.Lanes.{words_by_rows}
use Rattle.romix.proofs.Naturals.{blocks_in_standard_order-written, take-block_at}
use Rattle.romix.proofs.XoredBlocks.{block_left}
use Rattle.romix.proofs.romix.turn_to_diagonals.Goals as goal

pub loop-i-init : goal.loop-i-init
unfolding blocks_in_standard_order
loop-i-init c = record { done = refl; left = refl }

pub loop-i-preserved : goal.loop-i-preserved
loop-i-preserved c =
    let i : ℕ = c.loop-i.i in
    let old : List ℕ = c.args.row.now in
    let new : List ℕ = words_by_rows c.to_diagonals-turned.result in
    let here = c.to_diagonals-turned.ensures.words ∙ c.load.ensures.words ∙ ap (take 16) c.loop-i.invariant.left in
    record {
      done = blocks_in_standard_order-written c.loop-i.row c.store.new.row new i (omega arith) refl c.store.ensures.front
          ∙ ap (λ (l : List ℕ). blocks_in_standard_order i (take (16 * i) c.loop-i.row) ++ l) here
          ∙ ap (λ (l : List ℕ). l ++ block_at old i) c.loop-i.invariant.done
          ∙ take-block_at old i (omega arith);
      left = block_left old c.loop-i.row c.store.new.row i c.loop-i.invariant.left c.store.ensures.rest;
    }

pub returns : goal.returns
returns c =
    let old : List ℕ = c.args.row.now in
    let row : List ℕ = c.loop-i.row in
    let i : ℕ = c.loop-i.i in
    let n : length row / 16 ≡ i = omega arith in
    record {
      words = ap (λ (k : ℕ). blocks_in_standard_order k row) n
          ∙ ap (blocks_in_standard_order i) (sym (take_all (16 * i) row (omega arith)))
          ∙ c.loop-i.invariant.done ∙ take_all (16 * i) old (omega arith);
    }
