-- What lanes have made of a matrix follows from how many blocks each has left.
use Rattle.std.proofs.Common.{◌≡◌, ◌≢◌, ◌⊎◌, ℕ, zero, suc, ◌+◌, ◌-◌, ◌*◌, ◌/◌, ◌%◌, ◌<◌, ◌≤◌, inl, inr, Bool, true, false, ◌&&◌, List, [], ◌∷◌, length, get_or, set, replicate, slice_index, refl, sym, ap, subst, ◌∙◌, arith, nat_lt, length-set}
use Rattle.std.specs.Prelude.{map, nat_le, if◌then◌else◌}
use Rattle.std.specs.List.{range_with_len}
use Rattle.std.proofs.lemmas.List.{ext_get_or, get_or-set_same, get_or-set_other, get_or-replicate, length-replicate}
use Rattle.std.proofs.lemmas.List.FromFn.{get_or-map-range_with_len, length-map-range_with_len}
use Rattle.std.proofs.lemmas.Bool.{cases_lt, le-leb, lt-leb, lt-ltb, le-ltb}
use Rattle.std.proofs.lemmas.Bool.Decides.{eqb_tells}
use Rattle.std.proofs.lemmas.Nat.{div-mul-add, div_below}
use Rattle.std.proofs.Math.Nat.{mul-le-mul_right, mul-add-mod_self_right, mod-eq_of_lt, mod-lt}
use Rattle.argon.specs.Argon2.{block_at, matrix_block}
use Rattle.argon.specs.Buffer.{HoldsNewestBlocks, block_held, column_number_after_slices}
use Rattle.argon.specs.Counts.{computed_block_count, first_index}
use Rattle.argon.specs.Filling.{Filling, HasSliceLeft, IsFilling, IsNewest}
use Rattle.argon.specs.Parameters.{Parameters, block_count, lane_len, segment_len}
use Rattle.argon.specs.Inside.Segment.{IsInMatrix, IsSegmentOfParameters, column_number}
use Rattle.argon.specs.declared.segment.Segment.{Segment}
use Rattle.argon.specs.SliceProgress.{IsSliceProgress, HasNoBlocksLeft, SliceProgress, after_step, next_column, next_column_number, new_slice_progress, with_next_block}
use Rattle.argon.specs.Woven.{IsSliceProgressOf, block_in_slice_progress, all_blocks_in_slice_progress, first_column, is_column_made, with_next_slice, woven}
use Rattle.argon.specs.Inside.NextSlice.{AreCountsOfBlocksLeft, IsNextSlice}
use Rattle.argon.proofs.Buffer.{lanes_apart, place-lt}
use Rattle.argon.proofs.Progress.{first_index-le, next_is}
use Rattle.argon.proofs.Slices.{range_long}
use Rattle.argon.proofs.SliceProgress.{closed, lane_with_some, stepped}

-- ---- tests

between : (a b x : ℕ) → a ≤ x → x < b → (nat_le a x && nat_lt x b) ≡ true
between a b x low high = rw (le-leb a x low, lt-ltb x b high) refl

below : (a b x : ℕ) → x < a → (nat_le a x && nat_lt x b) ≡ false
below a b x low = rw (lt-leb a x low) refl

past : (t : Bool) (b x : ℕ) → b ≤ x → (t && nat_lt x b) ≡ false
past true b x high = rw (le-ltb x b high) refl
past false b x high = refl

-- ---- the blocks, place by place

length-where_left : (f : Filling) (left : List ℕ) → length (all_blocks_in_slice_progress f left) ≡ length f.blocks
unfolding all_blocks_in_slice_progress
length-where_left f left = length-map-range_with_len _ 0 (length f.blocks)

at_place : (f : Filling) (left : List ℕ) (place : ℕ) → place < length f.blocks
    → get_or (all_blocks_in_slice_progress f left) place [] ≡ block_in_slice_progress f left (place / lane_len f.parameters) (place % lane_len f.parameters)
unfolding all_blocks_in_slice_progress
at_place f left place lt =
    get_or-map-range_with_len (λ place. block_in_slice_progress f left (place / lane_len f.parameters) (place % lane_len f.parameters))
    0 (length f.blocks) place place [] lt (omega arith)

-- the same by the lane and the column
at_column : (f : Filling) (left : List ℕ) (lane column : ℕ) → length f.blocks ≡ block_count f.parameters → lane < f.parameters.lanes
    → column < lane_len f.parameters → get_or (all_blocks_in_slice_progress f left) (lane * lane_len f.parameters + column) [] ≡ block_in_slice_progress f left lane column
at_column f left lane column size known inside =
    let q : ℕ = lane_len f.parameters in
    let there : (lane * lane_len f.parameters + column) / lane_len f.parameters ≡ lane = div-mul-add lane q column inside in
    let here : (lane * lane_len f.parameters + column) % lane_len f.parameters ≡ column =
    mul-add-mod_self_right lane q column ∙ mod-eq_of_lt inside in
    at_place f left (lane * q + column) (rw size (place-lt f.parameters.lanes q lane column known inside))
    ∙ rw (there, here) refl

-- two lists of blocks are the same where each lane's columns are
same_blocks : (f : Filling) (a b : List (List ℕ)) → 0 < lane_len f.parameters → length a ≡ block_count f.parameters → length b ≡ block_count f.parameters
    → ((lane column : ℕ) → lane < f.parameters.lanes → column < lane_len f.parameters
    → get_or a (lane * lane_len f.parameters + column) [] ≡ get_or b (lane * lane_len f.parameters + column) [])
    → a ≡ b
same_blocks f a b some la lb same =
    ext_get_or [] a b (la ∙ sym lb) (λ place lt.
    let q : ℕ = lane_len f.parameters in
    let split : place / lane_len f.parameters * lane_len f.parameters + place % lane_len f.parameters ≡ place = omega arith in
    rw split at (same (place / q) (place % q) (div_below place q f.parameters.lanes some (rw la at lt)) (mod-lt place some)))

-- where nothing is made
pub nothing_made : (f : Filling) → IsFilling f → all_blocks_in_slice_progress f (new_slice_progress f).left ≡ f.blocks
nothing_made f filling =
    let c : Parameters = f.parameters in
    let pass : ℕ = f.slices_made / 4 in
    let slice : ℕ = f.slices_made % 4 in
    let long : 2 ≤ segment_len f.parameters = range_long c filling.in_range in
    let small : first_index (f.slices_made / 4) (f.slices_made % 4) ≤ 2 = first_index-le pass slice in
    same_blocks f (all_blocks_in_slice_progress f (new_slice_progress f).left) f.blocks (omega arith) (length-where_left f _ ∙ filling.size) filling.size
    (λ lane column known inside.
    let left : slice_index (new_slice_progress f).left lane ≡ computed_block_count f.parameters (f.slices_made / 4) (f.slices_made % 4) =
    get_or-replicate c.lanes lane (computed_block_count c pass slice) 0 known in
    let next : next_column (new_slice_progress f) lane ≡ first_column f = omega arith in
    let none : is_column_made f (new_slice_progress f).left lane column ≡ false =
    elim (cases_lt column (first_column f)) [
      | inl lt ↦ below (first_column f) (next_column (new_slice_progress f) lane) column lt
      | inr le ↦ past (nat_le (first_column f) column) (next_column (new_slice_progress f) lane) column (rw next le)
    ] in
    at_column f (new_slice_progress f).left lane column filling.size known inside ∙ rw none refl)

-- a lane makes one more column
one_more : (a b x : ℕ) → x ≢ b → (nat_le a x && nat_lt x (b + 1)) ≡ (nat_le a x && nat_lt x b)
one_more a b x ne =
    elim (cases_lt x b) [
      | inl lt ↦ rw (lt-ltb x b lt, lt-ltb x (b + 1) (omega arith)) refl
      | inr le ↦ past (nat_le a x) (b + 1) x (omega arith) ∙ sym (past (nat_le a x) b x le)
    ]

pub block_more : (f : Filling) (left : List ℕ) (lane : ℕ) → IsSliceProgress (woven f left) → 0 < slice_index left lane
    → with_next_block (woven f left) lane ≡ all_blocks_in_slice_progress f (set left lane (slice_index left lane - 1))
block_more f left lane weaving some =
    let known : lane < f.parameters.lanes = lane_with_some left lane f.parameters.lanes weaving.lanes some in
    let few = weaving.left lane known in
    let size : length f.blocks ≡ block_count f.parameters = sym (length-where_left f left) ∙ weaving.size in
    let count : length left ≡ f.parameters.lanes = weaving.lanes in
    let c : Parameters = f.parameters in
    let after : List ℕ = set left lane (slice_index left lane - 1) in
    let new : List ℕ = matrix_block f.parameters f.first_hash (next_column_number (woven f left) lane) lane in
    let long : 2 ≤ segment_len f.parameters = range_long c weaving.in_range in
    let small : first_index (f.slices_made / 4) (f.slices_made % 4) ≤ 2 = first_index-le (f.slices_made / 4) (f.slices_made % 4) in
    let whole : (f.slices_made % 4 + 1) * segment_len f.parameters ≤ 4 * segment_len f.parameters = mul-le-mul_right (segment_len c) (omega arith) in
    let inside : next_column (woven f left) lane < lane_len f.parameters = omega arith in
    let one_less : slice_index (set left lane (slice_index left lane - 1)) lane ≡ slice_index left lane - 1 =
    get_or-set_same left lane (slice_index left lane - 1) 0 (omega arith) in
    let next : next_column (woven f (set left lane (slice_index left lane - 1))) lane ≡ next_column (woven f left) lane + 1 = omega arith in
    let place : ℕ = lane * lane_len c + next_column (woven f left) lane in
    let fits : lane * lane_len c + next_column (woven f left) lane < length (all_blocks_in_slice_progress f left) =
    rw (length-where_left f left, size) (place-lt c.lanes (lane_len c) lane (next_column (woven f left) lane) known inside) in
    same_blocks f (with_next_block (woven f left) lane) (all_blocks_in_slice_progress f after) (omega arith)
    (length-set (all_blocks_in_slice_progress f left) place new ∙ length-where_left f left ∙ size) (length-where_left f after ∙ size)
    (λ other column there within. elim (eqb_tells other lane) [
      | inl same ↦ elim (eqb_tells column (next_column (woven f left) lane)) [
        | inl now ↦
            let made : is_column_made f (set left lane (slice_index left lane - 1)) lane (next_column (woven f left) lane) ≡ true =
            between (first_column f) (next_column (woven f after) lane) (next_column (woven f left) lane) (omega arith) (omega arith) in
            rw (same.1, now.1) (get_or-set_same (all_blocks_in_slice_progress f left) place new [] fits
            ∙ sym (at_column f after lane (next_column (woven f left) lane) size known inside ∙ rw made refl))
        | inr elsewhere ↦
            let apart : lane * lane_len f.parameters + column ≢ lane * lane_len c + next_column (woven f left) lane = let ne = elsewhere.1 in omega arith in
            let kept : is_column_made f (set left lane (slice_index left lane - 1)) lane column ≡ is_column_made f left lane column =
            rw next (one_more (first_column f) (next_column (woven f left) lane) column elsewhere.1) in
            rw same.1 (get_or-set_other (all_blocks_in_slice_progress f left) place (lane * lane_len c + column) new [] apart
            ∙ at_column f left lane column size known within ∙ sym (at_column f after lane column size known within ∙ rw kept refl))
      ]
      | inr ne ↦
          let apart : other * lane_len f.parameters + column ≢ lane * lane_len c + next_column (woven f left) lane =
          lanes_apart (lane_len c) other lane column (next_column (woven f left) lane) within inside ne.1 in
          let kept : slice_index (set left lane (slice_index left lane - 1)) other ≡ slice_index left other =
          get_or-set_other left lane other (slice_index left lane - 1) 0 ne.1 in
          get_or-set_other (all_blocks_in_slice_progress f left) place (other * lane_len c + column) new [] apart
          ∙ at_column f left other column size there within ∙ sym (at_column f after other column size there within ∙ rw kept refl)
    ])

-- no lane has any left
pub all_none : (left : List ℕ) (lanes : ℕ) → length left ≡ lanes → ((lane : ℕ) → lane < lanes → slice_index left lane ≡ 0) → left ≡ replicate lanes 0
all_none left lanes size none =
    ext_get_or 0 left (replicate lanes 0) (size ∙ sym (length-replicate lanes 0))
    (λ lane lt. none lane (rw size at lt) ∙ sym (get_or-replicate lanes lane 0 0 (rw size at lt)))

-- ---- every weave of a matrix holds the newest blocks

-- the number of a column that is not made, or of one that is made again, against the numbers around the slice
woven_newest : (f : Filling) (left : List ℕ) → IsFilling f → HasSliceLeft f
    → ((lane : ℕ) → lane < f.parameters.lanes → slice_index left lane ≤ computed_block_count f.parameters (f.slices_made / 4) (f.slices_made % 4))
    → HoldsNewestBlocks f.parameters f.first_hash (all_blocks_in_slice_progress f left) (next_column_number (woven f left))
woven_newest f left filling next few = record {
  holds = λ lane number known before near.
      let c : Parameters = f.parameters in
      let q : ℕ = lane_len f.parameters in
      let pass : ℕ = f.slices_made / 4 in
      let slice : ℕ = f.slices_made % 4 in
      let column : ℕ = number % lane_len f.parameters in
      let all : 4 * (f.slices_made / 4) + f.slices_made % 4 ≡ f.slices_made = omega arith in
      let long : 2 ≤ segment_len f.parameters = range_long c filling.in_range in
      let small : first_index (f.slices_made / 4) (f.slices_made % 4) ≤ 2 = first_index-le pass slice in
      let inside : number % lane_len f.parameters < lane_len f.parameters = mod-lt number (omega arith) in
      let split : number / lane_len f.parameters * lane_len f.parameters + number % lane_len f.parameters ≡ number = omega arith in
      let whole : (f.slices_made % 4 + 1) * segment_len f.parameters ≤ 4 * segment_len f.parameters = mul-le-mul_right (segment_len c) (omega arith) in
      let some = few lane known in
      let start : column_number_after_slices f.parameters f.slices_made ≡ f.slices_made / 4 * lane_len f.parameters + first_column f =
      (let at = next_is c pass slice in rw all at at) in
      let newest = filling.newest next.started in
      let old : number < column_number_after_slices f.parameters f.slices_made → column_number_after_slices f.parameters f.slices_made ≤ number + lane_len f.parameters
      → is_column_made f left lane (number % lane_len f.parameters) ≡ false
      → get_or (all_blocks_in_slice_progress f left) (lane * lane_len f.parameters + number % lane_len f.parameters) [] ≡ matrix_block f.parameters f.first_hash number lane =
      λ lt le none. at_column f left lane column filling.size known inside ∙ rw none (newest.holds lane number known lt le) in
      let pass_is : (number / lane_len f.parameters ≡ f.slices_made / 4) ⊎ (number < f.slices_made / 4 * lane_len f.parameters) =
      elim (cases_lt (number / lane_len f.parameters) (f.slices_made / 4)) [
        | inl lt ↦ inr (let le : (number / lane_len f.parameters + 1) * lane_len f.parameters ≤ f.slices_made / 4 * lane_len f.parameters = mul-le-mul_right q (omega arith) in omega arith)
        | inr ge ↦ elim (cases_lt (f.slices_made / 4) (number / lane_len f.parameters)) [
          | inl gt ↦ let le : (f.slices_made / 4 + 1) * lane_len f.parameters ≤ number / lane_len f.parameters * lane_len f.parameters = mul-le-mul_right q (omega arith) in absurd (omega arith)
          | inr le ↦ inl (omega arith)
        ]
      ] in
      elim (cases_lt (number % lane_len f.parameters) (first_column f)) [
        | inl early ↦
            old (elim pass_is [
              | inl same ↦ let e : number / lane_len f.parameters * lane_len f.parameters ≡ f.slices_made / 4 * lane_len f.parameters = ap (λ (x : ℕ). x * lane_len f.parameters) same in omega arith
              | inr lt ↦ omega arith
            ]) (omega arith) (below (first_column f) (next_column (woven f left) lane) column early)
        | inr late ↦ elim (cases_lt (number % lane_len f.parameters) (next_column (woven f left) lane)) [
          | inl now ↦
              let this : number ≡ f.slices_made / 4 * lane_len f.parameters + number % lane_len f.parameters = elim pass_is [
                | inl same ↦ let e : number / lane_len f.parameters * lane_len f.parameters ≡ f.slices_made / 4 * lane_len f.parameters = ap (λ (x : ℕ). x * lane_len f.parameters) same in omega arith
                | inr lt ↦
                    absurd (elim (cases_lt (number / lane_len f.parameters) (f.slices_made / 4)) [
                      | inl less ↦ let le : (number / lane_len f.parameters + 1) * lane_len f.parameters ≤ f.slices_made / 4 * lane_len f.parameters = mul-le-mul_right q (omega arith) in omega arith
                      | inr more ↦ let le : f.slices_made / 4 * lane_len f.parameters ≤ number / lane_len f.parameters * lane_len f.parameters = mul-le-mul_right q more in omega arith
                    ])
              ] in
              at_column f left lane column filling.size known inside
              ∙ rw (between (first_column f) (next_column (woven f left) lane) column late now)
              (ap (λ (n : ℕ). matrix_block f.parameters f.first_hash n lane) (sym this))
          | inr past_it ↦
              old (elim pass_is [
                | inl same ↦ let e : number / lane_len f.parameters * lane_len f.parameters ≡ f.slices_made / 4 * lane_len f.parameters = ap (λ (x : ℕ). x * lane_len f.parameters) same in absurd (omega arith)
                | inr lt ↦ omega arith
              ]) (omega arith) (past (nat_le (first_column f) column) (next_column (woven f left) lane) column past_it)
        ]
      ];
}

pub woven_weaving : (f : Filling) (left : List ℕ) → IsFilling f → HasSliceLeft f → length left ≡ f.parameters.lanes
    → ((lane : ℕ) → lane < f.parameters.lanes → slice_index left lane ≤ computed_block_count f.parameters (f.slices_made / 4) (f.slices_made % 4))
    → IsSliceProgress (woven f left)
woven_weaving f left filling next size few = record {
  in_range = filling.in_range;
  next = record { started = next.started; left = next.left };
  size = length-where_left f left ∙ filling.size;
  lanes = size;
  left = few;
  newest = woven_newest f left filling next few;
}

-- ---- a weave, from its matrix

abbrev woven_with : Filling → List (List ℕ) → List ℕ → SliceProgress
woven_with f blocks left = record { matrix = record f { blocks = blocks }; left = left }

abbrev pub with_slice_done : SliceProgress → Filling
with_slice_done w = record w.matrix { slices_made = w.matrix.slices_made + 1 }

-- where it is opened
pub opened_woven : (f : Filling) (left : List ℕ) → IsFilling f → HasSliceLeft f → left ≡ (new_slice_progress f).left
    → IsSliceProgressOf f (record { matrix = record f { is_started = true }; left = left })
opened_woven f left filling next e = record {
  woven = let P : Bool → Type 0 = λ started. woven_with (record f { is_started = started }) f.blocks left ≡ woven f left in
      subst P next.started (ap (λ (blocks : List (List ℕ)). woven_with f blocks left) (rw e (sym (nothing_made f filling))));
}

-- after a step
step_of_woven : (f : Filling) (left : List ℕ) (lane : ℕ) → IsSliceProgress (woven f left) → 0 < slice_index left lane
    → after_step (woven f left) lane ≡ woven f (set left lane (slice_index left lane - 1))
step_of_woven f left lane weaving some =
    ap (λ (blocks : List (List ℕ)). woven_with f blocks (set left lane (slice_index left lane - 1))) (block_more f left lane weaving some)

pub step_woven : (f : Filling) (w : SliceProgress) (lane : ℕ) → IsSliceProgress w → 0 < slice_index w.left lane → IsSliceProgressOf f w → IsSliceProgressOf f (after_step w lane)
step_woven f w lane weaving some from = record {
  woven = let P : SliceProgress → Type 0 = λ v. after_step v lane ≡ woven f (after_step v lane).left in
      subst P (sym from.woven) (step_of_woven f w.left lane (subst IsSliceProgress from.woven weaving) some);
}

pub stepped_woven : (w : SliceProgress) (lane : ℕ) (blocks : List (List ℕ)) (left : List ℕ) → IsSliceProgress w → 0 < slice_index w.left lane
    → blocks ≡ with_next_block w lane → left ≡ set w.left lane (slice_index w.left lane - 1)
    → (f : Filling) → IsSliceProgressOf f w → IsSliceProgressOf f (record { matrix = record w.matrix { blocks = blocks }; left = left })
stepped_woven w lane blocks left weaving some eb el f from = rw (eb, el) (step_woven f w lane weaving some from)

-- where it is closed
pub closed_woven : (f : Filling) (w : SliceProgress) → IsSliceProgress w → HasNoBlocksLeft w → IsSliceProgressOf f w
    → with_slice_done w ≡ with_next_slice f
closed_woven f w weaving none_left from =
    let none : w.left ≡ replicate w.matrix.parameters.lanes 0 = all_none w.left w.matrix.parameters.lanes weaving.lanes none_left.none in
    let same : w.matrix.parameters ≡ f.parameters = ap (λ (v : SliceProgress). v.matrix.parameters) from.woven in
    let all : w.left ≡ replicate f.parameters.lanes 0 = none ∙ ap (λ (c : Parameters). replicate c.lanes 0) same in
    ap with_slice_done from.woven ∙ ap (λ (left : List ℕ). with_slice_done (woven f left)) all

-- ---- lane by lane

set_twice : (xs : List ℕ) (i a b : ℕ) → set (set xs i a) i b ≡ set xs i b
set_twice [] i a b = refl
set_twice (x ∷ xs) zero a b = refl
set_twice (x ∷ xs) (suc i) a b = ap (λ (rest : List ℕ). x ∷ rest) (set_twice xs i a b)

-- a lane with another number left
with_left : (c : Parameters) (pass slice : ℕ) (left : List ℕ) (lane n : ℕ) → AreCountsOfBlocksLeft c pass slice left → n ≤ computed_block_count c pass slice
    → AreCountsOfBlocksLeft c pass slice (set left lane n)
with_left c pass slice left lane n are le = record {
  lanes = length-set left lane n ∙ are.lanes;
  few = λ l known. elim (eqb_tells l lane) [
    | inl same ↦ rw (same.1, get_or-set_same left lane n 0 (rw (are.lanes, ← same.1) known)) le
    | inr ne ↦ rw (get_or-set_other left lane l n 0 ne.1) (are.few l known)
  ];
}

pub are_weaving : (f : Filling) (c : Parameters) (pass slice : ℕ) (left : List ℕ) → IsNextSlice f c pass slice → AreCountsOfBlocksLeft c pass slice left → IsSliceProgress (woven f left)
are_weaving f c pass slice left at are =
    woven_weaving f left at.filling at.next (rw at.is_of are.lanes) (rw (at.is_of, ← at.pass_is, ← at.slice_is) are.few)

-- one more column of a segment
pub column_more : (f : Filling) (c : Parameters) (at : Segment) (left : List ℕ) (old new : List (List ℕ)) (index : ℕ)
    → IsNextSlice f c at.pass at.slice → IsSegmentOfParameters c at → IsInMatrix at → AreCountsOfBlocksLeft c at.pass at.slice left
    → first_index at.pass at.slice ≤ index → index < at.len
    → old ≡ all_blocks_in_slice_progress f (set left at.lane (at.len - index))
    → new ≡ set old (at.lane * (4 * at.len) + (at.slice * at.len + index))
    (block_at c (block_held c old) (column_number at index) at.pass at.lane at.slice index)
    → new ≡ all_blocks_in_slice_progress f (set left at.lane (at.len - (index + 1)))
column_more f c at left old new index next is_of valid are first lt eo e =
    let lane : ℕ = at.lane in
    let now : List ℕ = set left at.lane (at.len - index) in
    let len : segment_len c ≡ at.len = is_of.len in
    let have : AreCountsOfBlocksLeft c at.pass at.slice (set left at.lane (at.len - index)) = with_left c at.pass at.slice left at.lane (at.len - index) are (omega arith) in
    let weaving = are_weaving f c at.pass at.slice now next have in
    let fits : at.lane < length left = rw (are.lanes, is_of.lanes) valid.lane in
    let left_is : slice_index (set left at.lane (at.len - index)) at.lane ≡ at.len - index = get_or-set_same left at.lane (at.len - index) 0 fits in
    let some : 0 < slice_index (set left at.lane (at.len - index)) at.lane = omega arith in
    let i : at.len - (at.len - index) ≡ index = omega arith in
    let P : ℕ → Type 0 = λ i. new ≡ set old (at.lane * (4 * at.len) + (at.slice * at.len + i))
    (block_at c (block_held c old) (column_number at i) at.pass at.lane at.slice i) in
    let here = subst P (sym i) e in
    let one : new ≡ with_next_block (woven f (set left at.lane (at.len - index))) at.lane =
    stepped (woven f now) lane old new at.len lane at.pass at.slice (at.len - index) weaving some eo (rw next.is_of len) refl next.pass_is next.slice_is
    (sym left_is) (rw next.is_of here) in
    let less : at.len - index - 1 ≡ at.len - (index + 1) = omega arith in
    one ∙ block_more f now lane weaving some
    ∙ ap (λ (n : ℕ). all_blocks_in_slice_progress f (set now at.lane (n - 1))) left_is
    ∙ ap (all_blocks_in_slice_progress f) (set_twice left at.lane (at.len - index) (at.len - index - 1))
    ∙ ap (λ (n : ℕ). all_blocks_in_slice_progress f (set left at.lane n)) less

-- what is left where the first so many lanes have none
unfoldable pub left_after_lanes : Parameters → ℕ → ℕ → ℕ → List ℕ
left_after_lanes c pass slice count =
    map (λ lane. if nat_lt lane count then 0 else computed_block_count c pass slice) (range_with_len 0 c.lanes)

left_after : (c : Parameters) (pass slice count lane : ℕ) → lane < c.lanes
    → slice_index (left_after_lanes c pass slice count) lane ≡ (if nat_lt lane count then 0 else computed_block_count c pass slice)
unfolding left_after_lanes
left_after c pass slice count lane known =
    get_or-map-range_with_len (λ lane. if nat_lt lane count then 0 else computed_block_count c pass slice) 0 c.lanes lane lane 0 known (omega arith)

length-left_after : (c : Parameters) (pass slice count : ℕ) → length (left_after_lanes c pass slice count) ≡ c.lanes
unfolding left_after_lanes
length-left_after c pass slice count = length-map-range_with_len _ 0 c.lanes

either_few : (t : Bool) (n : ℕ) → (if t then 0 else n) ≤ n
either_few true n = omega arith
either_few false n = omega arith

pub are_left_after : (c : Parameters) (pass slice count : ℕ) → AreCountsOfBlocksLeft c pass slice (left_after_lanes c pass slice count)
are_left_after c pass slice count = record {
  lanes = length-left_after c pass slice count;
  few = λ lane known. rw (left_after c pass slice count lane known) (either_few (nat_lt lane count) (computed_block_count c pass slice));
}

-- the next lane has all of its segment left
pub left_whole : (c : Parameters) (pass slice count : ℕ) → count < c.lanes → slice_index (left_after_lanes c pass slice count) count ≡ computed_block_count c pass slice
left_whole c pass slice count known = left_after c pass slice count count known ∙ rw (le-ltb count count (omega arith)) refl

-- one more lane
pub lane_more : (c : Parameters) (pass slice count : ℕ) → count < c.lanes → set (left_after_lanes c pass slice count) count 0 ≡ left_after_lanes c pass slice (count + 1)
lane_more c pass slice count known =
    let old : List ℕ = left_after_lanes c pass slice count in
    let new : List ℕ = left_after_lanes c pass slice (count + 1) in
    let size = length-left_after c pass slice count in
    ext_get_or 0 (set old count 0) new (length-set old count 0 ∙ size ∙ sym (length-left_after c pass slice (count + 1)))
    (λ lane lt.
    let there : lane < c.lanes = rw (length-set old count 0, size) at lt in
    elim (eqb_tells lane count) [
      | inl same ↦
          rw same.1 (get_or-set_same old count 0 0 (rw size known)
          ∙ sym (left_after c pass slice (count + 1) count known ∙ rw (lt-ltb count (count + 1) (omega arith)) refl))
      | inr ne ↦
          let test : nat_lt lane (count + 1) ≡ nat_lt lane count = elim (cases_lt lane count) [
            | inl below ↦ lt-ltb lane (count + 1) (omega arith) ∙ sym (lt-ltb lane count below)
            | inr above ↦ let n = ne.1 in le-ltb lane (count + 1) (omega arith) ∙ sym (le-ltb lane count above)
          ] in
          get_or-set_other old count lane 0 0 ne.1 ∙ left_after c pass slice count lane there
          ∙ sym (left_after c pass slice (count + 1) lane there ∙ rw test refl)
    ])

-- before the first lane
pub first_lane : (f : Filling) (c : Parameters) (pass slice : ℕ) → IsNextSlice f c pass slice → f.blocks ≡ all_blocks_in_slice_progress f (left_after_lanes c pass slice 0)
first_lane f c pass slice next =
    let all : (new_slice_progress f).left ≡ left_after_lanes c pass slice 0 =
    rw (← next.pass_is, ← next.slice_is, next.is_of)
    (ext_get_or 0 (replicate c.lanes (computed_block_count c pass slice)) (left_after_lanes c pass slice 0)
    (length-replicate c.lanes (computed_block_count c pass slice) ∙ sym (length-left_after c pass slice 0))
    (λ lane lt.
    let known : lane < c.lanes = rw (length-replicate c.lanes (computed_block_count c pass slice)) at lt in
    get_or-replicate c.lanes lane (computed_block_count c pass slice) 0 known
    ∙ sym (left_after c pass slice 0 lane known ∙ rw (le-ltb lane 0 (omega arith)) refl))) in
    sym (nothing_made f next.filling) ∙ ap (all_blocks_in_slice_progress f) all

-- after the last lane
pub last_lane : (c : Parameters) (pass slice count : ℕ) → count ≡ c.lanes → left_after_lanes c pass slice count ≡ replicate c.lanes 0
last_lane c pass slice count e =
    all_none (left_after_lanes c pass slice count) c.lanes (length-left_after c pass slice count)
    (λ lane known. left_after c pass slice count lane known ∙ rw (lt-ltb lane count (omega arith)) refl)

-- the matrix with its slice made holds the newest blocks
pub slice_is_newest : (f : Filling) → IsFilling f → HasSliceLeft f → IsNewest (with_next_slice f)
slice_is_newest f filling next =
    let none : List ℕ = replicate f.parameters.lanes 0 in
    let each : (lane : ℕ) → lane < f.parameters.lanes → slice_index (replicate f.parameters.lanes 0) lane ≡ 0 =
    λ lane known. get_or-replicate f.parameters.lanes lane 0 0 known in
    closed (woven f none) (woven_newest f none filling next (λ lane known. rw (each lane known) (omega arith))) (record { none = each })
