-- The block functions that are left of a slice's share, however its lanes are interleaved.
use Rattle.std.proofs.Common.{◌≡◌, ℕ, suc, ◌+◌, ◌<◌, ◌-◌, ◌*◌, ◌/◌, ◌%◌, ◌≤◌, Bool, true, false, List, [], ◌∷◌, length, get_or, set, slice_index, refl, ap, ◌∙◌, arith}
use Rattle.std.specs.Prelude.{max}
use Rattle.std.specs.List.{sum_by}
use Rattle.std.proofs.lemmas.List.Folds.{sum_by-replicate}
use Rattle.std.proofs.lemmas.List.Sums.{sum_by-cons, sum_by-set}
use Rattle.argon.specs.Counts.{address_block_count, address_work, address_blocks_made_at, computed_block_count, column_work, first_index, slice_work}
use Rattle.argon.specs.Filling.{Filling, IsFilling}
use Rattle.argon.specs.Parameters.{Parameters, segment_len}
use Rattle.argon.specs.Reference.{is_independent}
use Rattle.argon.specs.SliceProgress.{IsSliceProgress, HasNoBlocksLeft, SliceProgress, lane_work_left, new_slice_progress, work_left}
use Rattle.argon.proofs.Progress.{addresses_more, first_index-le}
use Rattle.argon.proofs.Slices.{range_long}
use Rattle.argon.proofs.SliceProgress.{lane_with_some}

-- a segment takes its first address block and what is left at its start
whole_segment : (b : Bool) (len first : ℕ) → 2 ≤ len → first ≤ 2
    → address_work b 1 + (len - first + address_work b (address_block_count len - max 1 (address_block_count (len - (len - first)))))
    ≡ len - first + address_work b (address_block_count len)
whole_segment true len first long small = omega arith
whole_segment false len first long small = omega arith

work_of_none : (b : Bool) (len : ℕ) → 2 ≤ len → 0 + address_work b (address_block_count len - max 1 (address_block_count (len - 0))) ≡ 0
work_of_none true len long = omega arith
work_of_none false len long = refl

sum_of_none : (f : ℕ → ℕ) (xs : List ℕ) → f 0 ≡ 0 → ((k : ℕ) → k < length xs → get_or xs k 0 ≡ 0) → sum_by f xs ≡ 0
sum_of_none f [] e none = refl
sum_of_none f (x ∷ xs) e none =
    let here : f x ≡ 0 = ap f (none 0 (omega arith)) ∙ e in
    let rest = sum_of_none f xs e (λ k lt. none (suc k) (omega arith)) in
    sum_by-cons f x xs ∙ omega arith

-- the share at the start
pub share_opened : (f : Filling) (left : List ℕ) (t u : ℕ) → IsFilling f → left ≡ (new_slice_progress f).left
    → u ≡ t + f.parameters.lanes * address_work (is_independent f.parameters (f.slices_made / 4) (f.slices_made % 4)) 1
    → u + work_left (record { matrix = record f { is_started = true }; left = left }) ≡ t + slice_work f.parameters (f.slices_made / 4) (f.slices_made % 4)
share_opened f left t u filling el e =
    let c : Parameters = f.parameters in
    let pass : ℕ = f.slices_made / 4 in
    let slice : ℕ = f.slices_made % 4 in
    let b : Bool = is_independent c pass slice in
    let own : ℕ = lane_work_left c pass slice (computed_block_count c pass slice) in
    let all = sum_by-replicate (lane_work_left c pass slice) c.lanes (computed_block_count c pass slice) in
    let each = whole_segment b (segment_len c) (first_index pass slice) (range_long c filling.in_range) (first_index-le pass slice) in
    rw el (rw (e, all) (regroup t c.lanes (address_work b 1) own ∙ ap (λ (x : ℕ). t + c.lanes * x) each))
  where
    regroup : (t p a b : ℕ) → t + p * a + p * b ≡ t + p * (a + b)
    regroup t p a b = grind arith

-- a column takes as much as its lane has less to take after it
column_share : (b : Bool) (len left : ℕ) → 0 < left → left ≤ len
    → 1 + address_work b (address_blocks_made_at (len - left)) + (left - 1 + address_work b (address_block_count len - max 1 (address_block_count (len - (left - 1)))))
    ≡ left + address_work b (address_block_count len - max 1 (address_block_count (len - left)))
column_share true len left some few =
    let next : len - (left - 1) ≡ len - left + 1 = omega arith in
    omega (arith, addresses_more true (len - left), ap (λ (n : ℕ). max 1 (address_block_count n)) next)
column_share false len left some few = omega arith

-- a step takes as much as the share is less after it, by the numbers that the code has
pub share_stepped : (w : SliceProgress) (lane : ℕ) (blocks : List (List ℕ)) (left : List ℕ) (t u len pass slice here : ℕ) → IsSliceProgress w → 0 < slice_index w.left lane
    → segment_len w.matrix.parameters ≡ len → pass ≡ w.matrix.slices_made / 4 → slice ≡ w.matrix.slices_made % 4 → here ≡ slice_index w.left lane
    → left ≡ set w.left lane (slice_index w.left lane - 1) → u ≡ t + column_work w.matrix.parameters pass slice (len - here)
    → u + work_left (record { matrix = record w.matrix { blocks = blocks }; left = left }) ≡ t + work_left w
share_stepped w lane blocks left t u len pass slice here weaving some en ep es eh el =
    rw (← en, ep, es, eh, el) (λ e.
    let c : Parameters = w.matrix.parameters in
    let known : lane < w.matrix.parameters.lanes = lane_with_some w.left lane w.matrix.parameters.lanes weaving.lanes some in
    let few = weaving.left lane known in
    let moved = sum_by-set (lane_work_left c (w.matrix.slices_made / 4) (w.matrix.slices_made % 4)) w.left lane (slice_index w.left lane - 1) 0 (omega (arith, weaving.lanes)) in
    let column = column_share (is_independent c (w.matrix.slices_made / 4) (w.matrix.slices_made % 4)) (segment_len c) (slice_index w.left lane) some (omega arith) in
    omega (arith, e, moved, column))

-- nothing of it is left at the end
pub share_closed : (w : SliceProgress) → IsSliceProgress w → HasNoBlocksLeft w → work_left w ≡ 0
share_closed w weaving none_left =
    sum_of_none (lane_work_left w.matrix.parameters (w.matrix.slices_made / 4) (w.matrix.slices_made % 4)) w.left
    (work_of_none (is_independent w.matrix.parameters (w.matrix.slices_made / 4) (w.matrix.slices_made % 4)) (segment_len w.matrix.parameters)
    (range_long w.matrix.parameters weaving.in_range)) (λ lane known. none_left.none lane (omega (arith, weaving.lanes)))
