-- A walk, since a ghost field that owns changes here: the body stores nothing and returns, and the count that the
-- caller lent is said to be one more.
use mathlib.Core.Path.{refl}
use mathlib.Core.List.{List, [], ◌∷◌}
use Prim.Native.Nat.{◌+◌}
use mir.Syntax.{named}
use mir.Val.{Val, vunit}
use types.Kit.{‵, ◌⊛◌, ◌$◌, ◌∵◌, !, qed, done, move, keep, drop, use0, split, join, fsplit3, feq_i, suffices, rewrite, frame, group}
use types.Run.{enter, of_opd, returns, unit_lit}
use types.ByLocal.{alloc_all, free_all, look_at, pass_all, sets}
use denote.Laws.{shows}
use denote.Memory.{cell_at}
use denote.Ref.{MutRef, mut_Tells, mut_vals}
use denote.Signature.{plain}
use denote.Steps.{closes, nothing, opens, peeks}
use denote.Triple.Walked.{Goes-ref, Stays, ends_at, says, stay_ref, walk_of}
use base.Fml.{flft, ftrue}
use base.Fraction.{full_share}
use Rattle.std.proofs.raw_atomic.Walks.{proved}
use Rattle.counter.proofs.Nothing.{for_nothing, stored}
use Rattle.counter.proofs.Count.TheLaws.{lowers}
use Rattle.counter.specs.contracts.Count.{the_row}
use Rattle.counter.specs.contracts.Count.plus_one as f
use Rattle.counter.proofs.Count.plus_one.Statement.{statement}
use Rattle.counter.proofs.Count.plus_one.Code as code

-- the reference is owned to the return, where the caller has the count back
abbrev stayed : Stays f.ended.signature.params f.ended.kept
stayed = (stay_ref (0 ∷ []) tt (plain (λ _. the_row)), tt)

pub plus_one_spec : {M : Type 1} → statement M
plus_one_spec 𝓤 𝓛 𝓜 𝓡 wired =
    let c = f.clauses 𝓛 𝓜.mem 𝓡.returns in let W = walk_of 𝓛 f.ended stayed c in
    proved 𝓛 f.ended stayed c 𝓜 𝓡 (Goes-ref 𝓛 1 0 tt (plain (λ _. the_row)), tt)
    f.Key.name code.function (code.unfolded 𝓤 𝓛.H 𝓜 𝓡 wired)
    (λ κs. (mut_vals, tt)) (λ κs. (mut_Tells (named 0) κs.0 the_row, tt)) (λ κs qs bounds a _ are.
    let b = a.0.ref_ptr.0 in let o = a.0.ref_ptr.1 in let vs = mut_vals a.0 in
    let y : W.Ghost = ((κs, qs, bounds, a, (vs, tt)), tt) in
    let before = a.0.now in let after = before + 1 in
    -- of the tokens, the parameter and the `requires` the reference and its lifetime's token are kept
    qed 𝓛 (((‵ (flft κs.0 qs.0) ⊛ ‵ ftrue) ⊛ ‵ ((MutRef (named 0) κs.0 the_row).own_val a.0 vs) ⊛ ‵ ftrue) ∷ ‵ ftrue ∷ []) ∵
    split ! $ split ! $ move ! (2 ∷ []) $ split ! $ keep ! (0 ∷ 2 ∷ []) $
    enter ! _ _ _ _ _ $ alloc_all ! (λ l. pass_all ! refl ((tt, tt), tt) $
    fsplit3 ! $ move ! (1 ∷ 2 ∷ 3 ∷ []) $ opens ! tt the_row b o (λ us.
    -- what is stored is known, and what the count before owned, which is nothing, is given up
    move ! (1 ∷ []) $ peeks ! the_row _ (shows 𝓛 the_row) before us (λ is. drop ! $
    rewrite ! 0 (λ (ws : List Val). ‵ (cell_at full_share the_row.mir ws b o)) (lowers.val_is before us is) refl $
    -- the same is stored at the next count, and what that owns is had for nothing
    use0 𝓛 (‵ (the_row.own_val after (stored ∷ []))) (for_nothing 𝓛 after) $ move ! (1 ∷ 0 ∷ []) $
    closes ! tt the_row after (stored ∷ []) b o $
    -- the statements: the result is `()`, and returned
    sets ! (of_opd ! (unit_lit !)) refl (tt, tt) $ returns ! (look_at ! 0 refl) $ free_all ! refl $ move ! (3 ∷ []) $
    -- the contract: the caller's count is the next one
    suffices ! _ (ends_at 𝓛 f.ended stayed c y vunit tt (after, tt) (tt, tt)) $ says ! refl $
    group ! 3 $ nothing ! $ move ! (1 ∷ 0 ∷ []) $ join ! $ nothing ! $ move ! (2 ∷ 0 ∷ []) $ join ! $ frame ! $ frame ! $
    feq_i ! _ (vunit ∷ []) _ refl $ done !))))
