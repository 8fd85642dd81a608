-- Lanes that go on in any order.
use Rattle.std.proofs.Common.{◌≡◌, ℕ, ◌+◌, ◌-◌, ◌/◌, ◌%◌, inl, inr, Bool, List, [], ◌∷◌, replicate, set, slice_index, refl, sym, ap, subst, ◌∙◌, arith}
use Rattle.std.proofs.lemmas.Bool.{cases_lt, lt-ltb, le-ltb}
use Rattle.argon.specs.Filling.{Filling, HasSliceLeft, IsFilling}
use Rattle.argon.specs.Parameters.{segment_len}
use Rattle.argon.specs.Laws.{IsLaneOrderOfWholeSlice, after_turn, after_lane_turns, lane_turn_work, lane_turns_work}
use Rattle.argon.specs.SliceProgress.{IsSliceProgress, SliceProgress, new_slice_progress, with_next_block, work_left}
use Rattle.argon.specs.Woven.{IsSliceProgressOf, with_next_slice, woven}
use Rattle.argon.proofs.SliceProgress.{opened, step_weaving}
use Rattle.argon.proofs.WorkLeft.{share_closed, share_stepped}
use Rattle.argon.proofs.Woven.{all_none, closed_woven, opened_woven, step_woven}

-- what holds of a weave that was opened on a matrix
record Goes (f : Filling) (w : SliceProgress) : Type 0 where
  pub weaving : IsSliceProgress w
  pub woven : IsSliceProgressOf f w

turn_goes : (f : Filling) (w : SliceProgress) (lane : ℕ) → Goes f w → Goes f (after_turn w lane)
turn_goes f w lane go =
    elim (cases_lt 0 (slice_index w.left lane)) [
      | inl some ↦
          rw (lt-ltb 0 (slice_index w.left lane) some) (record { weaving = step_weaving w lane go.weaving some; woven = step_woven f w lane go.weaving some go.woven })
      | inr none ↦ rw (le-ltb 0 (slice_index w.left lane) none) go
    ]

-- a turn takes as much as the share is less after it
turn_share : (w : SliceProgress) (lane : ℕ) → IsSliceProgress w → lane_turn_work w lane + work_left (after_turn w lane) ≡ work_left w
turn_share w lane weaving =
    elim (cases_lt 0 (slice_index w.left lane)) [
      | inl some ↦
          rw (lt-ltb 0 (slice_index w.left lane) some)
          (share_stepped w lane (with_next_block w lane) (set w.left lane (slice_index w.left lane - 1)) 0 _ (segment_len w.matrix.parameters)
          (w.matrix.slices_made / 4) (w.matrix.slices_made % 4) (slice_index w.left lane) weaving some refl refl refl refl refl (omega arith) ∙ omega arith)
      | inr none ↦ rw (le-ltb 0 (slice_index w.left lane) none) (omega arith)
    ]

turns_go : (f : Filling) (w : SliceProgress) (order : List ℕ) → Goes f w → Goes f (after_lane_turns w order)
turns_go f w [] go = go
turns_go f w (lane ∷ order) go = turns_go f (after_turn w lane) order (turn_goes f w lane go)

turns_share : (f : Filling) (w : SliceProgress) (order : List ℕ) → Goes f w → lane_turns_work w order + work_left (after_lane_turns w order) ≡ work_left w
turns_share f w [] go = omega arith
turns_share f w (lane ∷ order) go =
    let rest = turns_share f (after_turn w lane) order (turn_goes f w lane go) in
    let one = turn_share w lane go.weaving in
    omega arith

start_goes : (f : Filling) → IsFilling f → HasSliceLeft f → Goes f (new_slice_progress f)
start_goes f filling next =
    let P : Bool → Type 0 = λ started. Goes f (record { matrix = record f { is_started = started }; left = (new_slice_progress f).left }) in
    subst P (sym next.started) (record {
      weaving = opened f (new_slice_progress f).left filling next refl;
      woven = opened_woven f (new_slice_progress f).left filling next refl;
    })

pub order_made : (f : Filling) (order : List ℕ) → IsFilling f → HasSliceLeft f → IsLaneOrderOfWholeSlice f order
    → (after_lane_turns (new_slice_progress f) order).matrix.blocks ≡ (with_next_slice f).blocks
order_made f order filling next whole =
    let go = turns_go f (new_slice_progress f) order (start_goes f filling next) in
    ap (λ (g : Filling). g.blocks) (closed_woven f (after_lane_turns (new_slice_progress f) order) go.weaving whole go.woven)

-- what is left is nothing, in as many lanes as the matrix has
order_left : (f : Filling) (order : List ℕ) → IsFilling f → HasSliceLeft f → IsLaneOrderOfWholeSlice f order
    → (after_lane_turns (new_slice_progress f) order).left ≡ replicate f.parameters.lanes 0
order_left f order filling next whole =
    let w : SliceProgress = after_lane_turns (new_slice_progress f) order in
    let go = turns_go f (new_slice_progress f) order (start_goes f filling next) in
    let lanes : (after_lane_turns (new_slice_progress f) order).matrix.parameters.lanes ≡ f.parameters.lanes = ap (λ (v : SliceProgress). v.matrix.parameters.lanes) go.woven.woven in
    all_none w.left w.matrix.parameters.lanes go.weaving.lanes whole.none ∙ ap (λ (n : ℕ). replicate n 0) lanes

pub orders_same : (f : Filling) (order other : List ℕ) → IsFilling f → HasSliceLeft f → IsLaneOrderOfWholeSlice f order → IsLaneOrderOfWholeSlice f other
    → after_lane_turns (new_slice_progress f) order ≡ after_lane_turns (new_slice_progress f) other
orders_same f order other filling next whole also =
    let go = turns_go f (new_slice_progress f) order (start_goes f filling next) in
    let goes = turns_go f (new_slice_progress f) other (start_goes f filling next) in
    go.woven.woven ∙ ap (woven f) (order_left f order filling next whole ∙ sym (order_left f other filling next also)) ∙ sym goes.woven.woven

pub order_work : (f : Filling) (order : List ℕ) → IsFilling f → HasSliceLeft f → IsLaneOrderOfWholeSlice f order
    → lane_turns_work (new_slice_progress f) order ≡ work_left (new_slice_progress f)
order_work f order filling next whole =
    let start = start_goes f filling next in
    let go = turns_go f (new_slice_progress f) order start in
    let none = share_closed (after_lane_turns (new_slice_progress f) order) go.weaving whole in
    let all = turns_share f (new_slice_progress f) order start in
    omega arith
