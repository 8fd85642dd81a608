-- `take` reads the pointer, leaves the handle empty, and hands what it owned to `from_raw`.
use mathlib.Core.Path.{◌≡◌, refl, sym, subst, ap, ◌∙◌}
use mathlib.Core.Bool.{true}
use mathlib.Core.List.{List, [], ◌∷◌}
use Rattle.std.specs.Prelude.{Option, Some, None, is_some}
use lib.Dec.{T}
use mir.Raw.{raw as bare}
use mir.Syntax.{named}
use mir.Val.{Val, vptr, has_ty, WT}
use base.Fraction.{full_share}
use base.Logic.{emp, id⊢, never, fst∗}
use base.Fml.{ftrue, fsep, flft}
use contract.BorrowLft.{◌⊑◌}
use contract.Monad.{fact, fact_i}
use contract.Running.{tables}
use types.Logic.{sem}
use types.Kit.{Item, at_ret, ‵, raw, ◌⊛◌, some, later, ◌$◌, ◌∵◌, !, qed, move, keep, drop, use0, use1, join, split, split3, pick, rewrite, fsplit, fsplit3, fjoin, feq_i, suffices, frame, group, await, done}
use types.Part.{whole, sub, look_in}
use types.Run.{stop, fld, load, no_more, and_then, of_opd, returns, enter, first, blocks, exec}
use types.ByLocal.{alloc_all, pass_all, free_all, look_at, get, through, sets, lands_last, env}
use denote.Exit.{yes}
use denote.Laws.{shows}
use denote.Memory.{cell_at}
use denote.Param.NoDrop.{glues}
use denote.RawPtr.{Ptr, block_ptr, null_ptr, in_a_block}
use denote.Ref.{MutRef, mut_vals, mut_Tells}
use denote.Signature.{plain}
use denote.Steps.{heard, nothing, only, opens, closes, peeks}
use denote.Triple.Call.{calls_at_last}
use denote.Triple.Spec.{triple_of}
use denote.Triple.Table.{framed}
use denote.Triple.Walked.{Stays, stay_ref, stay_dropped, walk_of, ends_at, Goes-ref, Goes-dropped}
use Rattle.core.proofs.alloc.Calls.{token}
use Rattle.core.proofs.alloc.Shapes.{after}
use Rattle.core.proofs.mem.Facts.{says_two}
use Rattle.std.proofs.raw_atomic.Walks.{proved}
use Rattle.std_alloc.specs.Box.Ownership.{box_owns}
use Rattle.std_alloc.proofs.BoxSteps.Form.{D, R, B, τ, box_ty, box_typed}
use Rattle.std_alloc.proofs.BoxSteps.Steps.{box_out, box_in}
use Rattle.std_heap.specs.contracts.Global as Heap
use Rattle.std_heap.proofs.Global.TheLaws as heap
use Rattle.std_heap.proofs.GlobalAllocator.TheImpl.Met.{passed}
use Rattle.std_heap.proofs.Handle.{heap_val, heap_Tells}
use Rattle.pikhsen_c.specs.StreamBox.{owns_optional_box}
use Rattle.pikhsen_c.specs.contracts.stream.StreamBox as kept
use Rattle.pikhsen_c.specs.contracts.stream.StreamState as running
use Rattle.pikhsen_c.proofs.stream.StreamBox.TheLaws.{lowers}
use Rattle.pikhsen_c.proofs.stream.StreamState.TheLaws as running'
use Rattle.pikhsen_c.proofs.AsBox.{E, A, LA, held}
use Rattle.std_alloc.specs.contracts.boxed.Box.from_raw as Fr
use Rattle.std_alloc.proofs.boxed.Box.from_raw.Met as raw_met
use Rattle.pikhsen_c.specs.contracts.stream.StreamBox.take as f
use Rattle.pikhsen_c.proofs.stream.StreamBox.take.Statement.{statement}
use Rattle.pikhsen_c.proofs.stream.StreamBox.take.Code as code

abbrev stayed : Stays f.ended.signature.params f.ended.kept
stayed = (stay_ref (0 ∷ []) tt (plain (λ _. kept.the_row)), (stay_dropped (plain (λ _. Heap.the_row)) yes, tt))

pub take_spec : {M : Type 1} → statement M
unfolding Rattle.pikhsen_c.proofs.Destruct++none.drop.Code.code
take_spec {M = M} 𝓤 𝓛 𝓜 𝓡 wired =
    let c = f.clauses 𝓛 𝓜.mem 𝓡.returns in let W = walk_of 𝓛 f.ended stayed c in let 𝓣 = tables 𝓤 𝓛.H 𝓜 𝓡 𝓡.env in
    let Shuts = triple_of 𝓛 (Fr.signature (E).row (E).al.row (E).al.g (E).al.d (E).al.drops) (Fr.spec (E).row (E).al.row (E).al.g (E).al.d (E).al.drops 𝓛 𝓜.mem 𝓡.returns) in
    let kn = raw_met.met 𝓤 𝓛 𝓜 𝓡 (code.calls-std_alloc::boxed::Box::from_raw 𝓡.env wired) (E).row (E).al.row (E).laws (E).al.laws (E).al.g (E).al.d (E).al.drops
    (passed 𝓡.env (code.calls-std_heap::GlobalAllocator::allocate 𝓡.env wired) (code.calls-std_heap::GlobalAllocator::deallocate 𝓡.env wired) (code.calls-std_heap::GlobalAllocator::grow 𝓡.env wired) (code.calls-std_heap::GlobalAllocator::shrink 𝓡.env wired) M 𝓤 𝓛 𝓜 𝓡)
    (glues "pikhsen_c::Destruct++none::drop" 𝓡.env (code.calls-pikhsen_c::Destruct++none::drop 𝓡.env wired) A LA M 𝓤 𝓛 𝓜 𝓡) in
    proved 𝓛 f.ended stayed c 𝓜 𝓡 (Goes-ref 𝓛 1 0 tt (plain (λ _. kept.the_row)), (Goes-dropped 𝓛 1 (plain (λ _. Heap.the_row)) yes (λ κs x w. refl), tt))
    f.Key.name code.function (code.unfolded 𝓤 𝓛.H 𝓜 𝓡 wired)
    (λ κs. (mut_vals, ((λ _. heap_val ∷ []), tt))) (λ κs. (mut_Tells (named 0) κs.0 kept.the_row, (heap_Tells, tt))) (λ κs qs bounds a _ are.
    let b = a.0.ref_ptr.0 in let o = a.0.ref_ptr.1 in let h = a.0.now in let heap' = a.1.0 in let vs = mut_vals a.0 in
    let y : W.Ghost = ((κs, qs, bounds, a, (vs, (heap_val ∷ [], tt))), tt) in
    let Full : Type 0 = is_some h.value ≡ true in
    qed 𝓛 (((‵ (flft κs.0 qs.0) ⊛ ‵ ftrue) ⊛ ‵ ((MutRef (named 0) κs.0 kept.the_row).own_val a.0 vs) ⊛ ‵ ((Heap.the_row).own_val heap' (heap_val ∷ [])) ⊛ ‵ ftrue) ∷ raw (fact 𝓤 Full) ∷ []) ∵
    move ! (1 ∷ []) $ heard ! Full (λ full. let held-x = held h.value full in let x = held-x.value in
    split ! $ split ! $ move ! (2 ∷ []) $ split3 ! $ keep ! (0 ∷ 1 ∷ 3 ∷ []) $
    enter ! _ _ _ _ _ $ alloc_all ! (λ l. pass_all ! refl ((tt, tt), ((tt, ((tt, tt), tt)), tt)) $
    fsplit3 ! $ move ! (1 ∷ 2 ∷ 4 ∷ []) $ opens ! tt kept.the_row b o (λ us.
    move ! (1 ∷ []) $ peeks ! kept.the_row _ (shows 𝓛 kept.the_row) h us (λ is. fsplit ! $ move ! (1 ∷ []) $
    rewrite ! 0 (λ (m : Option (E).row.Denot). ‵ (owns_optional_box running.the_row h.at m)) held-x.same refl $
    in_a_block ! h.at (λ p. box_owns (token (E).al heap') (R E) p x) (fst∗ 𝓤 (never 𝓤) (sem 𝓛 (token (E).al heap' (bare (τ E)) null_ptr))) (λ b' o' e.
    let at-block = lowers.val_is h us is ∙ ap (λ (p : Ptr). lowers.lowered (record h { at = p }) ∷ []) e in
    let Cell = λ (ws : List Val). ‵ (cell_at full_share (kept.the_row).mir ws b o) in
    rewrite ! 2 Cell at-block refl $
    -- [what the box owns; the fields; the handle's cell; the open borrow, in three entries; self's first part; the heap]
    first ! $ blocks ! $
    sets ! (of_opd ! (load ! (through ! refl (fld ! refl (stop !))) (look_in ! 2 (sub ! 0 refl (whole !))))) refl (tt, tt) $ sets ! (of_opd ! (get ! refl)) refl (tt, tt) $
    rewrite ! 2 Cell (sym at-block) refl $
    -- the handle is empty, and the borrow is closed
    move ! (1 ∷ []) $ nothing ! $ move ! (1 ∷ 0 ∷ []) $ fjoin ! $ move ! (2 ∷ 0 ∷ 3 ∷ 4 ∷ 5 ∷ []) $ closes ! tt kept.the_row (record h { value = None }) us b o $
    -- [two parts of self; the token; what the box owns; self's first part; the heap]
    move ! (3 ∷ 5 ∷ []) $
    let InX = [] ⊑ (E).row.lives in let InA = [] ⊑ (E).al.row.lives in
    let ts : Item 𝓤 = ‵ (flft [] full_share) ⊛ ‵ (flft [] full_share) ⊛ ‵ ftrue in
    let z : Shuts.Ghost = ((([], ([], tt)), (full_share, (full_share, tt)), tt, (heap', (block_ptr b' o', tt)), (heap_val ∷ [], (vptr b' o' ∷ [], tt))), x) in
    use0 𝓛 (raw (fact 𝓤 InA)) (fact_i 𝓤 InA (emp 𝓤) (heap.the_within [])) $ join ! $ use0 𝓛 (raw (fact 𝓤 InX)) (fact_i 𝓤 InX (emp 𝓤) (running'.the_within [])) $ join ! $
    nothing ! $ feq_i ! (List Val) (vptr b' o' ∷ []) (vptr b' o' ∷ []) refl $ fjoin ! $ move ! (2 ∷ 0 ∷ []) $ fjoin ! $
    nothing ! $ use0 𝓛 (‵ (flft [] full_share)) (𝓛.lfts.lft-nil full_share) $ join ! $ use0 𝓛 (‵ (flft [] full_share)) (𝓛.lfts.lft-nil full_share) $ join ! $ join ! $ join ! $
    use1 𝓛 (raw (Shuts.pre z)) (id⊢ 𝓤 _) $
    calls_at_last ! (framed 𝓤 𝓛.H 𝓜 𝓣) Shuts kn z (and_then ! (get ! refl) (and_then ! (get ! refl) (no_more !))) (λ u.
    use1 𝓛 (later (some (λ (r : D E). (ts ⊛ ‵ ((B E).own_val r (u ∷ []))) ⊛ some (λ (_ : Unit {0} × (Unit {0} × Unit {0})). ‵ (fsep ftrue (fsep ftrue ftrue)) ⊛ (raw (fact 𝓤 (r.value ≡ x)) ⊛ raw (fact 𝓤 (r.alloc ≡ heap'))))))) (id⊢ 𝓤 _) $
    await ! tt $ pick ! (λ r. split ! $ move ! (1 ∷ []) $ pick ! (λ _. split3 ! $ drop ! $ heard ! (r.value ≡ x) (λ found. drop ! $ split ! $ drop ! $
    box_out E ! r (u ∷ []) (λ b'' o'' hw e' wu fw. box_in E ! r b'' o'' r.value e' refl $ rewrite ! 0 (λ (us' : List Val). ‵ ((B E).own_val r us')) (sym wu) refl $
    let typed : T (has_ty (box_ty E) u) × WT u = subst (λ (s : Val). T (has_ty (box_ty E) s) × WT s) (sym (ap only wu)) (box_typed E hw b'' o'' fw) in
    lands_last ! refl typed $ exec ! 𝓣.C 𝓣.Λ (env code.Mir.locals l) (after 1 (code.function).body) (at_ret _ (W.post y)) $
    sets ! (of_opd ! (get ! refl)) refl typed $ returns ! (look_at ! 0 refl) $ free_all ! refl $
    -- [the box; two parts of self; the token; self's first part]
    suffices ! _ (ends_at 𝓛 f.ended stayed c y u r (record h { value = None }, (tt, tt)) (tt, (tt, tt))) $ says_two ! (held-x.same ∙ ap Some (sym found), refl) $
    move ! (4 ∷ 1 ∷ 2 ∷ []) $ group ! 3 $ nothing ! $ nothing ! $ join ! $ move ! (1 ∷ 0 ∷ []) $ join ! $ nothing ! $ move ! (3 ∷ 0 ∷ []) $ join ! $ frame ! $ frame ! $ done !)))))))))))
