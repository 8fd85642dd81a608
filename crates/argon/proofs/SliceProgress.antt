-- A slice that is made block by block, by lanes in any order.
use Rattle.std.proofs.Common.{◌≡◌, ◌≢◌, ℕ, ◌+◌, ◌-◌, ◌*◌, ◌/◌, ◌%◌, ◌<◌, ◌≤◌, inl, inr, true, List, [], length, get_or, set, slice_index, refl, sym, ap, ◌∙◌, arith, length-set}
use Rattle.std.proofs.lemmas.List.{get_or-set_same, get_or-set_other, get_or_past, get_or-replicate, length-replicate}
use Rattle.std.proofs.lemmas.Bool.{cases_lt}
use Rattle.std.proofs.lemmas.Bool.Decides.{eqb_tells}
use Rattle.std.proofs.Math.Nat.{mul-le-mul_right, mul-add-mod_self_right, mod-eq_of_lt}
use Rattle.argon.specs.Argon2.{block_at, matrix_block}
use Rattle.argon.specs.Buffer.{HoldsNewestBlocks, IsInSlice, block_held, column_number_after_slices}
use Rattle.argon.specs.Counts.{computed_block_count, first_index}
use Rattle.argon.specs.Filling.{Filling, HasSliceLeft, IsFilling}
use Rattle.argon.specs.Parameters.{Parameters, lane_len, segment_len}
use Rattle.argon.specs.Reference.{HasAddresses, ReadsFinishedSegments}
use Rattle.argon.specs.SliceProgress.{IsSliceProgress, HasNoBlocksLeft, HoldsNewestBlocksByLane, SliceProgress, after_step, next_column, next_index_in_segment, next_column_number, new_slice_progress, with_next_block}
use Rattle.argon.proofs.Buffer.{block_at_is_block, newest_same, step_newest}
use Rattle.argon.proofs.ColumnBlock.{first_two}
use Rattle.argon.proofs.MatrixBlocks.{IsPlace}
use Rattle.argon.proofs.Progress.{first_index-le, next_end, next_is, two_below}
use Rattle.argon.proofs.ReadPlaces.{reads_finished}
use Rattle.argon.proofs.Slices.{range_long}

-- the columns that lanes make next are in the slice, or at its end
weaving_within : (w : SliceProgress) → IsInSlice w.matrix.parameters (w.matrix.slices_made / 4) (w.matrix.slices_made % 4) (next_column_number w)
weaving_within w = record { from = λ lane known. omega arith; to = λ lane known. omega arith }

-- a lane that has some left is one
pub lane_with_some : (left : List ℕ) (lane lanes : ℕ) → length left ≡ lanes → 0 < slice_index left lane → lane < lanes
lane_with_some left lane lanes size some =
    elim (cases_lt lane lanes) [
      | inl lt ↦ lt
      | inr le ↦ let none : get_or left lane 0 ≡ 0 = get_or_past left lane 0 (omega arith) in absurd (omega arith)
    ]

-- what is known of the column that such a lane makes next
pub record IsNext (w : SliceProgress) (lane : ℕ) : Type 0 where
  pub known : lane < w.matrix.parameters.lanes
  pub long : 2 ≤ segment_len w.matrix.parameters
  pub first : first_index (w.matrix.slices_made / 4) (w.matrix.slices_made % 4) ≤ next_index_in_segment w lane
  pub index : next_index_in_segment w lane < segment_len w.matrix.parameters
  pub column : next_column w lane < lane_len w.matrix.parameters
  pub two : 2 ≤ next_column_number w lane

pub is_next : (w : SliceProgress) (lane : ℕ) → IsSliceProgress w → 0 < slice_index w.left lane → IsNext w lane
is_next w lane weaving some =
    let c : Parameters = w.matrix.parameters in
    let pass : ℕ = w.matrix.slices_made / 4 in
    let slice : ℕ = w.matrix.slices_made % 4 in
    let known : lane < w.matrix.parameters.lanes = lane_with_some w.left lane w.matrix.parameters.lanes weaving.lanes some in
    let long : 2 ≤ segment_len w.matrix.parameters = range_long w.matrix.parameters weaving.in_range in
    let few = weaving.left lane known in
    let small : first_index (w.matrix.slices_made / 4) (w.matrix.slices_made % 4) ≤ 2 = first_index-le pass slice in
    let first : first_index (w.matrix.slices_made / 4) (w.matrix.slices_made % 4) ≤ next_index_in_segment w lane = omega arith in
    let index : next_index_in_segment w lane < segment_len w.matrix.parameters = omega arith in
    let whole : (slice + 1) * segment_len w.matrix.parameters ≤ 4 * segment_len w.matrix.parameters = mul-le-mul_right (segment_len c) (omega arith) in
    record {
      known = known;
      long = long;
      first = first;
      index = index;
      column = omega arith;
      two = two_below (segment_len c) pass slice (next_index_in_segment w lane) long (first_two pass slice (next_index_in_segment w lane) first);
    }

-- what the lane makes from the blocks that are there is B's block
next_block_is : (w : SliceProgress) (lane : ℕ) → IsSliceProgress w → IsNext w lane → 0 < slice_index w.left lane
    → block_at w.matrix.parameters (block_held w.matrix.parameters w.matrix.blocks) (next_column_number w lane)
    (w.matrix.slices_made / 4) lane (w.matrix.slices_made % 4) (next_index_in_segment w lane)
    ≡ matrix_block w.matrix.parameters w.matrix.first_hash (next_column_number w lane) lane
next_block_is w lane weaving at some =
    block_at_is_block w.matrix.parameters w.matrix.first_hash w.matrix.blocks (next_column_number w) (next_column_number w lane) lane
    (w.matrix.slices_made / 4) (w.matrix.slices_made % 4) (next_index_in_segment w lane) weaving.newest (weaving_within w)
    (record { number = refl; slices = omega arith; indices = at.index }) at.long at.two at.known refl

pub next_index_here : (w : SliceProgress) (lane : ℕ) → IsSliceProgress w → 0 < slice_index w.left lane → next_index_in_segment (after_step w lane) lane ≡ next_index_in_segment w lane + 1
next_index_here w lane weaving some =
    let known : lane < w.matrix.parameters.lanes = lane_with_some w.left lane w.matrix.parameters.lanes weaving.lanes some in
    let one_less = get_or-set_same w.left lane (slice_index w.left lane - 1) 0 (omega (arith, weaving.lanes)) in
    let few = weaving.left lane known in
    omega arith

pub next_index_other : (w : SliceProgress) (lane l : ℕ) → l ≢ lane → next_index_in_segment (after_step w lane) l ≡ next_index_in_segment w l
next_index_other w lane l ne =
    ap (λ (x : ℕ). segment_len w.matrix.parameters - x) (get_or-set_other w.left lane l (slice_index w.left lane - 1) 0 ne)

-- a step keeps what holds of every weave
pub step_weaving : (w : SliceProgress) (lane : ℕ) → IsSliceProgress w → 0 < slice_index w.left lane → IsSliceProgress (after_step w lane)
step_weaving w lane weaving some =
    let c : Parameters = w.matrix.parameters in
    let pass : ℕ = w.matrix.slices_made / 4 in
    let slice : ℕ = w.matrix.slices_made % 4 in
    let n : ℕ = next_column_number w lane in
    let at : IsNext w lane = is_next w lane weaving some in
    let here : next_column_number w lane % lane_len w.matrix.parameters ≡ next_column w lane =
    mul-add-mod_self_right pass (lane_len c) (next_column w lane) ∙ mod-eq_of_lt at.column in
    let p : IsPlace w.matrix.parameters (next_column_number w lane) (w.matrix.slices_made / 4) (w.matrix.slices_made % 4) (next_index_in_segment w lane) =
    record { number = refl; slices = omega arith; indices = at.index } in
    let newest = step_newest c w.matrix.first_hash w.matrix.blocks (next_column_number w) (next_column_number (after_step w lane))
    (matrix_block c w.matrix.first_hash n lane) n lane pass slice (next_index_in_segment w lane) weaving.newest (weaving_within w) p at.long at.two at.known refl weaving.size
    (let e = next_index_here w lane weaving some in omega arith)
    (λ l ne. let e = next_index_other w lane l ne in omega arith)
    (sym (next_block_is w lane weaving at some)) in
    record {
      in_range = weaving.in_range;
      next = record { started = weaving.next.started; left = weaving.next.left };
      size = length-set w.matrix.blocks _ _ ∙ weaving.size;
      lanes = length-set w.left lane _ ∙ weaving.lanes;
      left = λ l known. elim (eqb_tells l lane) [
        | inl same ↦
            let few = weaving.left lane at.known in
            let one_less = get_or-set_same w.left lane (slice_index w.left lane - 1) 0 (omega (arith, weaving.lanes, at.known)) in
            rw same.1 (omega arith)
        | inr ne ↦
            let few = weaving.left l known in
            let kept = get_or-set_other w.left lane l (slice_index w.left lane - 1) 0 ne.1 in
            omega arith
      ];
      newest = rw here at newest;
    }

pub weaving_after : (w : SliceProgress) (lane : ℕ) (blocks : List (List ℕ)) (left : List ℕ) → IsSliceProgress w → 0 < slice_index w.left lane
    → blocks ≡ with_next_block w lane → left ≡ set w.left lane (slice_index w.left lane - 1)
    → IsSliceProgress (record { matrix = record w.matrix { blocks = blocks }; left = left })
weaving_after w lane blocks left weaving some eb el = rw (eb, el) (step_weaving w lane weaving some)

-- the blocks after a step, by the numbers that the code has
pub stepped : (w : SliceProgress) (lane : ℕ) (old blocks : List (List ℕ)) (len l pass slice here : ℕ) → IsSliceProgress w → 0 < slice_index w.left lane
    → old ≡ w.matrix.blocks → segment_len w.matrix.parameters ≡ len → l ≡ lane
    → pass ≡ w.matrix.slices_made / 4 → slice ≡ w.matrix.slices_made % 4 → here ≡ slice_index w.left lane
    → blocks ≡ set old (l * (4 * len) + (slice * len + (len - here)))
    (block_at w.matrix.parameters (block_held w.matrix.parameters old) (pass * (4 * len) + (slice * len + (len - here))) pass l slice (len - here))
    → blocks ≡ with_next_block w lane
stepped w lane old blocks len l pass slice here weaving some eo en el ep es eh e =
    e ∙ rw (eo, ← en, el, ep, es, eh)
    (ap (λ (new : List ℕ). set w.matrix.blocks (lane * lane_len w.matrix.parameters + next_column w lane) new)
    (next_block_is w lane weaving (is_next w lane weaving some) some))

-- the address blocks that the lanes have
abbrev pub HaveAddresses : SliceProgress → List (List ℕ) → Type 0
HaveAddresses w all =
    (l : ℕ) → l < w.matrix.parameters.lanes
    → HasAddresses w.matrix.parameters (w.matrix.slices_made / 4) l (w.matrix.slices_made % 4) (next_index_in_segment w l) (get_or all l [])

-- a step keeps each lane's address block
addresses_after : (w : SliceProgress) (lane : ℕ) (all : List (List ℕ)) (new : List ℕ) → IsSliceProgress w → 0 < slice_index w.left lane
    → length all ≡ w.matrix.parameters.lanes
    → HasAddresses w.matrix.parameters (w.matrix.slices_made / 4) lane (w.matrix.slices_made % 4) (next_index_in_segment w lane + 1) new
    → HaveAddresses w all → HaveAddresses (after_step w lane) (set all lane new)
addresses_after w lane all new weaving some size now have l known =
    let fits : lane < length all = rw size (lane_with_some w.left lane w.matrix.parameters.lanes weaving.lanes some) in
    elim (eqb_tells l lane) [
      | inl same ↦ rw (same.1, get_or-set_same all lane new [] fits, next_index_here w lane weaving some) now
      | inr ne ↦ rw (get_or-set_other all lane l new [] ne.1, next_index_other w lane l ne.1) (have l known)
    ]

-- the same by the numbers that the code has
pub addresses_stepped : (w : SliceProgress) (lane : ℕ) (blocks all : List (List ℕ)) (left new : List ℕ) (len l pass slice here : ℕ) → IsSliceProgress w → 0 < slice_index w.left lane
    → length all ≡ w.matrix.parameters.lanes
    → segment_len w.matrix.parameters ≡ len → l ≡ lane
    → pass ≡ w.matrix.slices_made / 4 → slice ≡ w.matrix.slices_made % 4 → here ≡ slice_index w.left lane
    → left ≡ set w.left lane (slice_index w.left lane - 1)
    → HasAddresses w.matrix.parameters pass l slice (len - here + 1) new → HaveAddresses w all
    → HaveAddresses (record { matrix = record w.matrix { blocks = blocks }; left = left }) (set all lane new)
addresses_stepped w lane blocks all left new len l pass slice here weaving some size en el ep es eh eleft =
    rw (← en, el, ep, es, eh, eleft) (addresses_after w lane all new weaving some size)

-- ---- the two ends of a slice

-- where nothing is made the lanes stand at the slice's start
start_number : (f : Filling) (l : ℕ) → IsFilling f → l < f.parameters.lanes
    → next_column_number (new_slice_progress f) l ≡ column_number_after_slices f.parameters f.slices_made
start_number f l filling known =
    let c : Parameters = f.parameters in
    let s : ℕ = f.slices_made in
    let all : 4 * (f.slices_made / 4) + f.slices_made % 4 ≡ f.slices_made = omega arith in
    let small : first_index (f.slices_made / 4) (f.slices_made % 4) ≤ 2 = first_index-le (s / 4) (s % 4) in
    let long : 2 ≤ segment_len f.parameters = range_long c filling.in_range in
    let left : slice_index (new_slice_progress f).left l ≡ computed_block_count f.parameters (f.slices_made / 4) (f.slices_made % 4) =
    get_or-replicate c.lanes l (computed_block_count c (s / 4) (s % 4)) 0 known in
    let at = next_is c (s / 4) (s % 4) in
    let number : column_number_after_slices f.parameters f.slices_made ≡ f.slices_made / 4 * lane_len f.parameters
    + (f.slices_made % 4 * segment_len f.parameters + first_index (f.slices_made / 4) (f.slices_made % 4)) = rw all at at in
    omega arith

pub opened : (f : Filling) (left : List ℕ) → IsFilling f → HasSliceLeft f → left ≡ (new_slice_progress f).left
    → IsSliceProgress (record { matrix = record f { is_started = true }; left = left })
opened f left filling next e = rw e (record {
  in_range = filling.in_range;
  next = record { started = refl; left = next.left };
  size = filling.size;
  lanes = length-replicate f.parameters.lanes _;
  left = λ l known. omega (arith, get_or-replicate f.parameters.lanes l (computed_block_count f.parameters (f.slices_made / 4) (f.slices_made % 4)) 0 known);
  newest =
      newest_same f.parameters f.first_hash f.blocks (λ _. column_number_after_slices f.parameters f.slices_made) (next_column_number (new_slice_progress f))
      (λ l known. start_number f l filling known) (filling.newest next.started);
})

-- where no lane has any left they stand at its end
pub closed : (w : SliceProgress) → HoldsNewestBlocksByLane w → HasNoBlocksLeft w
    → HoldsNewestBlocks w.matrix.parameters w.matrix.first_hash w.matrix.blocks (λ _. column_number_after_slices w.matrix.parameters (w.matrix.slices_made + 1))
closed w newest none_left =
    let c : Parameters = w.matrix.parameters in
    let s : ℕ = w.matrix.slices_made in
    let all : 4 * (w.matrix.slices_made / 4) + w.matrix.slices_made % 4 ≡ w.matrix.slices_made = omega arith in
    newest_same c w.matrix.first_hash w.matrix.blocks (next_column_number w) (λ _. column_number_after_slices c (s + 1))
    (λ l known.
    let end = next_end c (s / 4) (s % 4) in
    let none = none_left.none l known in
    let number : column_number_after_slices w.matrix.parameters (w.matrix.slices_made + 1)
    ≡ w.matrix.slices_made / 4 * lane_len w.matrix.parameters + (w.matrix.slices_made % 4 * segment_len w.matrix.parameters + segment_len w.matrix.parameters) = rw all at end in
    omega arith) newest

-- each lane's first address block serves its first column
pub first_addresses : (f : Filling) (left : List ℕ) (all : List (List ℕ)) → IsFilling f → left ≡ (new_slice_progress f).left
    → ((l : ℕ) → l < f.parameters.lanes → HasAddresses f.parameters (f.slices_made / 4) l (f.slices_made % 4) 0 (get_or all l []))
    → HaveAddresses (record { matrix = f; left = left }) all
first_addresses f left all filling e first l known =
    let small : first_index (f.slices_made / 4) (f.slices_made % 4) ≤ 2 = first_index-le (f.slices_made / 4) (f.slices_made % 4) in
    let long : 2 ≤ segment_len f.parameters = range_long f.parameters filling.in_range in
    let each : slice_index (new_slice_progress f).left l ≡ computed_block_count f.parameters (f.slices_made / 4) (f.slices_made % 4) =
    get_or-replicate f.parameters.lanes l (computed_block_count f.parameters (f.slices_made / 4) (f.slices_made % 4)) 0 known in
    let none : (segment_len f.parameters - slice_index (new_slice_progress f).left l - 1) / 128 ≡ (0 - 1) / 128 = omega arith in
    rw (e, none) (first l known)

-- ---- what a step reads

pub step_reads_finished : (w : SliceProgress) (lane : ℕ) → IsSliceProgress w → 0 < slice_index w.left lane
    → ReadsFinishedSegments w.matrix.parameters (w.matrix.slices_made / 4) lane (w.matrix.slices_made % 4) (next_index_in_segment w lane)
step_reads_finished w lane weaving some =
    let at : IsNext w lane = is_next w lane weaving some in
    reads_finished w.matrix.parameters (w.matrix.slices_made / 4) lane (w.matrix.slices_made % 4) (next_index_in_segment w lane)
    (record { long = at.long; lanes = at.known; slices = omega arith; from = at.first; to = at.index })
