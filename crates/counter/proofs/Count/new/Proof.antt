-- A walk, since a struct with a ghost field that owns is made here: the body stores `()` in the result and
-- returns, and the count is said to be 0. The heap is not used.
use mathlib.Core.Path.{refl}
use mathlib.Core.List.{[], ◌∷◌}
use types.Kit.{‵, raw, ◌⊛◌, ◌$◌, ◌∵◌, !, qed, done, move, keep, use0, split, join, suffices}
use types.Run.{and_then, enter, no_more, returns, unit_lit}
use types.Part.{agg}
use types.ByLocal.{alloc_all, free_all, look_at, pass_all, sets}
use denote.Exit.{yes}
use denote.RattleType.{owns}
use denote.Signature.{plain, types_at}
use denote.Steps.{nothing}
use denote.Triple.Entry.{alive}
use denote.Triple.Walked.{Goes-dropped, Stays, ends_at, says, stay_dropped, walk_of}
use base.Fml.{ftrue}
use Rattle.std.proofs.alloc.Global.TheLaws.{lowers}
use Rattle.std.proofs.raw_atomic.Walks.{proved}
use Rattle.std.specs.contracts.alloc.Global.{the_row as heap}
use Rattle.counter.proofs.Nothing.{for_nothing, stored}
use Rattle.counter.specs.contracts.Count.{the_row}
use Rattle.counter.specs.contracts.Count.new as f
use Rattle.counter.proofs.Count.new.Statement.{statement}
use Rattle.counter.proofs.Count.new.Code as code

-- nothing is wanted of the heap at the return
abbrev stayed : Stays f.ended.signature.params f.ended.kept
stayed = (stay_dropped _ yes, tt)

pub new_spec : {M : Type 1} → statement M
new_spec 𝓤 𝓛 𝓜 𝓡 wired =
    let c = f.clauses 𝓛 𝓜.mem 𝓡.returns in let W = walk_of 𝓛 f.ended stayed c in
    proved 𝓛 f.ended stayed c 𝓜 𝓡 (Goes-dropped 𝓛 0 (plain (λ _. heap)) yes (λ κs x w. refl), tt)
    f.Key.name code.function (code.unfolded 𝓤 𝓛.H 𝓜 𝓡 wired)
    (λ κs. ((λ alloc. lowers.lowered alloc ∷ []), tt)) (λ κs. (lowers.val_is, tt)) (λ κs qs bounds a _ are.
    let y : W.Ghost = ((κs, qs, bounds, a, (lowers.lowered a.0 ∷ [], tt)), tt) in
    -- of the tokens, the parameter and the `requires` only the tokens are kept
    qed 𝓛 ((raw (alive 𝓛 f.signature κs qs) ⊛ ‵ (owns (types_at f.signature.params κs) a y.0.4)) ∷ ‵ ftrue ∷ []) ∵
    split ! $ keep ! (0 ∷ []) $
    -- the statements: the result is made of one `()`, and returned
    enter ! _ _ _ _ _ $ alloc_all ! (λ l. pass_all ! refl ((tt, ((tt, tt), tt)), tt) $
    sets ! (agg ! (and_then ! (unit_lit !) (no_more !))) refl (tt, (tt, tt)) $
    returns ! (look_at ! 0 refl) $ free_all ! refl $
    -- the contract: the count is 0, and the result owns what is had for nothing
    suffices ! _ (ends_at 𝓛 f.ended stayed c y stored 0 (tt, tt) (tt, tt)) $ says ! refl $
    use0 𝓛 (‵ (the_row.own_val 0 (stored ∷ []))) (for_nothing 𝓛 0) $ nothing ! $ nothing ! $ join ! $
    move ! (2 ∷ 0 ∷ 1 ∷ []) $ done !))
