use Rattle.std.proofs.Common.{◌≡◌, ℕ, List, ◌+◌, ◌*◌, ◌-◌, ◌/◌, length, take, arith, refl, ap, sym, ◌∙◌}
use Rattle.std.proofs.lemmas.List.{take_all}
use Rattle.romix.specs.BlockMix.{block_at, block_mix_x_after, every_second_output}
use Rattle.romix.proofs.Mixing.{chain_more, every_second_more, mix_is}
use Rattle.romix.proofs.block_mix_by_rows.block_mix.Goals as goal

pub turns-init : goal.turns-init
unfolding block_mix_x_after every_second_output
turns-init c =
    let last : 2 * (length c.args.input.now / 32) - 1 ≡ length c.args.input.now / 16 - 1 = omega arith in
    record {
      x = c.load-x.ensures.words ∙ ap (block_at c.args.input.now) last;
      evens = refl;
      odds = refl;
      count = omega arith;
    }

pub turns-preserved : goal.turns-preserved
turns-preserved c =
    let i : ℕ = c.turns.i in
    let b : List ℕ = c.args.input.now in
    let one = chain_more b _ _ _ _ (2 * i) (2 * i + 1) c.turns.invariant.x c.load.ensures.words c.xor.ensures.rows c.core_by_rows-x.ensures.words refl in
    let two = chain_more b _ _ _ _ (2 * i + 1) (2 * (i + 1)) one c.load-in-turns.ensures.words c.xor-in-turns.ensures.rows c.core_by_rows-x-in-turns.ensures.words (omega arith) in
    record {
      x = two;
      evens = c.store.ensures.front ∙ every_second_more b _ _ 0 i (2 * i + 1) c.turns.invariant.evens one (omega arith);
      odds = c.store-in-turns.ensures.front ∙ every_second_more b _ _ 1 i (2 * (i + 1)) c.turns.invariant.odds two (omega arith);
      count = omega arith;
    }

pub returns-clause-words : goal.returns-clause-words
returns-clause-words c =
    let b = c.args.input.now in
    let n : ℕ = c.turns.i in
    let evens : take (16 * n) c.turns.even ≡ c.turns.even = take_all _ _ (omega arith) in
    let odds : take (16 * n) c.turns.odd ≡ c.turns.odd = take_all _ _ (omega arith) in
    mix_is b _ _ n (omega arith) (sym evens ∙ c.turns.invariant.evens) (sym odds ∙ c.turns.invariant.odds)
