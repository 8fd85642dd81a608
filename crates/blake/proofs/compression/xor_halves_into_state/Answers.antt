use Rattle.std.proofs.Common.{rules, ◌≡◌, ◌≢◌, ◌<◌, ◌∙◌, sym, refl, arith, length}
use Rattle.std.proofs.lemmas.List.{get_or-set_other, take_all}
use Rattle.blake.specs.Blake2b.{state_xored_with_halves}
use Rattle.blake.proofs.Compressing.{new_state_more}
use Rattle.blake.proofs.compression.xor_halves_into_state.Goals as goal

pub halves-init : goal.halves-init
unfolding state_xored_with_halves
halves-init c = (omega arith, refl, λ k h. refl)

pub halves-preserved : goal.halves-preserved
halves-preserved c =
    let lt : c.halves.i < length c.halves.state = omega arith in (
      search rules,
      new_state_more c.halves.i _ c.args.state.now c.halves.state c.args.v.now lt c.halves.invariant.1 (c.halves.invariant.2 c.halves.i (omega arith)) refl,
      λ k h.
          let ne : k ≢ c.halves.i = omega arith in
          get_or-set_other c.halves.state c.halves.i k _ 0 ne ∙ c.halves.invariant.2 k (omega arith),
    )

pub returns : goal.returns
returns c =
    let all : c.halves.i ≡ 8 = omega arith in
    record { state = sym (take_all 8 c.halves.state (omega arith)) ∙ (rw all at c.halves.invariant.1) }
