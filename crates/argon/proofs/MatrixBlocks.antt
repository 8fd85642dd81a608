-- The blocks of the matrix B, by the list of columns that defines them: the equation that each of them meets.
use Rattle.std.proofs.Common.{◌≡◌, ◌≢◌, ℕ, zero, suc, ◌+◌, ◌-◌, ◌*◌, ◌/◌, ◌%◌, ◌^◌, ◌<◌, ◌≤◌, Bool, true, false, List, [], ◌∷◌, ◌++◌, map, length, get_or, refl, sym, ap, ◌∙◌, arith, nat_eq, length-append}
use Rattle.std.specs.Prelude.{if◌then◌else◌}
use Rattle.std.specs.List.{range_with_len}
use Rattle.std.proofs.lemmas.List.FromFn.{get_or-map-range_with_len}
use Rattle.std.proofs.lemmas.List.{get_or_append_left}
use Rattle.std.proofs.lemmas.Grind.{common_steps}
use Rattle.std.proofs.lemmas.Nat.{div-mul-add}
use Rattle.std.proofs.lemmas.Bool.{eq-eqb, ne_eqb}
use Rattle.std.proofs.Math.Seq.{get_or-append_seam}
use Rattle.std.proofs.Math.Nat.{mul-le-mul_right, mul-add-mod_self_right, mod-eq_of_lt}
use Rattle.argon.specs.Argon2.{block_at, block_of, matrix_columns, block_from_h0, is_xored_in, matrix_block, next_block, stored_block}
use Rattle.argon.specs.Compression.{compression}
use Rattle.argon.specs.Parameters.{Parameters, lane_len, segment_len}
use Rattle.argon.specs.Reference.{reference_lane, reference_number, reference_words}
use Rattle.argon.proofs.ReferenceSet.{named_within}

pub length-matrix_columns : (c : Parameters) (h0 : List ℕ) (k : ℕ) → length (matrix_columns c h0 k) ≡ k + 2
unfolding matrix_columns
length-matrix_columns c h0 zero = refl
length-matrix_columns c h0 (suc k) =
    let ih = length-matrix_columns c h0 k in
    omega (arith, length-append (matrix_columns c h0 k) (map (next_block c (block_of (matrix_columns c h0 k)) (length (matrix_columns c h0 k))) (range_with_len 0 c.lanes) ∷ []), ih)

-- a column that is made stays
columns_made_grow : (c : Parameters) (h0 : List ℕ) (k i : ℕ) → i < k + 2 → get_or (matrix_columns c h0 (suc k)) i [] ≡ get_or (matrix_columns c h0 k) i []
unfolding matrix_columns
columns_made_grow c h0 k i lt = get_or_append_left (matrix_columns c h0 k) _ [] i (omega (arith, length-matrix_columns c h0 k))

columns_made_stay : (c : Parameters) (h0 : List ℕ) (k i d : ℕ) → i < k + 2 → get_or (matrix_columns c h0 (k + d)) i [] ≡ get_or (matrix_columns c h0 k) i []
columns_made_stay c h0 k i zero lt = let e : k + 0 ≡ k = omega arith in rw e refl
columns_made_stay c h0 k i (suc d) lt =
    let e : k + suc d ≡ suc (k + d) = omega arith in
    rw e (columns_made_grow c h0 (k + d) i (omega arith) ∙ columns_made_stay c h0 k i d lt)

-- B is what stands in each longer list
pub block_of-matrix_columns : (c : Parameters) (h0 : List ℕ) (k n lane : ℕ) → n < k + 2 → block_of (matrix_columns c h0 k) n lane ≡ matrix_block c h0 n lane
unfolding matrix_block
block_of-matrix_columns c h0 k n lane lt =
    let e : n - 1 + (k - (n - 1)) ≡ k = omega arith in
    let same : get_or (matrix_columns c h0 (n - 1 + (k - (n - 1)))) n [] ≡ get_or (matrix_columns c h0 (n - 1)) n [] =
    columns_made_stay c h0 (n - 1) n (k - (n - 1)) (omega arith) in
    ap (λ (col : List (List ℕ)). get_or col lane []) (rw e at same)

stored_by : (x : Bool) (a b new : List ℕ) → (x ≡ true → a ≡ b) → stored_block x a new ≡ stored_block x b new
stored_by false a b new same = refl
stored_by true a b new same = rw (same refl) refl

xored_later : (c : Parameters) (pass : ℕ) → is_xored_in c pass ≡ true → 0 < pass
xored_later c pass e = grind (arith, common_steps)

-- what is stored depends on the old block from the second pass on alone
pub stored_block_same : (c : Parameters) (pass : ℕ) (a b new : List ℕ) → (0 < pass → a ≡ b)
    → stored_block (is_xored_in c pass) a new ≡ stored_block (is_xored_in c pass) b new
stored_block_same c pass a b new same = stored_by (is_xored_in c pass) a b new (λ e. same (xored_later c pass e))

-- a block is the same from two sources that agree where it reads
pub block_at_same : (c : Parameters) (a b : ℕ → ℕ → List ℕ) (n lane pass slice index : ℕ)
    → a (n - 1) lane ≡ b (n - 1) lane
    → (0 < pass → a (n - lane_len c) lane ≡ b (n - lane_len c) lane)
    → ((j r l : ℕ) → r ≡ reference_number c pass lane slice index j → l ≡ reference_lane c pass lane slice j → a r l ≡ b r l)
    → block_at c a n pass lane slice index ≡ block_at c b n pass lane slice index
unfolding block_at
block_at_same c a b n lane pass slice index prev old named =
    let j : ℕ = reference_words c pass lane slice index (b (n - 1) lane) in
    rw (prev, named j (reference_number c pass lane slice index j) (reference_lane c pass lane slice j) refl refl)
    (stored_block_same c pass (a (n - lane_len c) lane) (b (n - lane_len c) lane)
    (compression (b (n - 1) lane) (b (reference_number c pass lane slice index j) (reference_lane c pass lane slice j))) old)

-- where a number stands
pub record IsPlace (c : Parameters) (n pass slice index : ℕ) : Type 0 where
  pub number : n ≡ pass * lane_len c + (slice * segment_len c + index)
  pub slices : slice < 4
  pub indices : index < segment_len c

place_numbers : (s n pass slice index : ℕ) → n ≡ pass * (4 * s) + (slice * s + index) → slice < 4 → index < s
    → (n / (4 * s) ≡ pass) × (n % (4 * s) / s ≡ slice) × (n % s ≡ index)
place_numbers s n pass slice index e hl hi =
    let le : (slice + 1) * s ≤ 4 * s = mul-le-mul_right s (omega arith) in
    let below : slice * s + index < 4 * s = omega arith in
    let rest : n % (4 * s) ≡ slice * s + index =
    rw e (mul-add-mod_self_right pass (4 * s) (slice * s + index) ∙ mod-eq_of_lt below) in
    let e2 : n ≡ (pass * 4 + slice) * s + index = omega arith in (
      rw e (div-mul-add pass (4 * s) (slice * s + index) below),
      rw rest (div-mul-add slice s index hi),
      rw e2 (mul-add-mod_self_right (pass * 4 + slice) s index ∙ mod-eq_of_lt hi),
    )

pub next_block_at : (c : Parameters) (b : ℕ → ℕ → List ℕ) (n lane pass slice index : ℕ) → IsPlace c n pass slice index
    → next_block c b n lane ≡ block_at c b n pass lane slice index
next_block_at c b n lane pass slice index p =
    let at = place_numbers (segment_len c) n pass slice index p.number p.slices p.indices in
    rw (at.0, at.1, at.2) refl

more-le : (index : ℕ) (is_own : Bool) → (if is_own then index else 0) ≤ index
more-le index true = omega arith
more-le index false = omega arith

first_index : (s n pass slice index : ℕ) → pass ≡ 0 → slice ≡ 0 → n ≡ pass * (4 * s) + (slice * s + index) → 2 ≤ n → 2 ≤ index
first_index s n pass slice index ep es e hn =
    let f : n ≡ 0 * (4 * s) + (0 * s + index) = rw (ep, es) at e in omega arith

first_own : (c : Parameters) (pass lane slice j : ℕ) → pass ≡ 0 → slice ≡ 0 → nat_eq (reference_lane c pass lane slice j) lane ≡ true
first_own c pass lane slice j ep es = rw (ep, es) (eq-eqb lane lane refl)

-- what is read for a number n: numbers below it
pub reads : (c : Parameters) (n lane pass slice index j r l : ℕ) → IsPlace c n pass slice index → 2 ≤ segment_len c → 2 ≤ n
    → r ≡ reference_number c pass lane slice index j → l ≡ reference_lane c pass lane slice j
    → (r < n) × (n ≤ r + lane_len c) × (l ≢ lane → r < n - index) × (n + segment_len c ≤ r + lane_len c + index)
unfolding reference_number
reads c n lane pass slice index j r l p hs hn er el =
    let is_own : Bool = nat_eq (reference_lane c pass lane slice j) lane in
    let within = named_within (segment_len c) pass slice index is_own (j % 2 ^ 32) r hs p.slices p.indices
    (λ ep es. (first_index (segment_len c) n pass slice index ep es p.number hn, first_own c pass lane slice j ep es)) er in
    let le = more-le index is_own in
    let other : (l ≢ lane) → r < n - index = λ ne.
    let not_own : is_own ≡ false = ne_eqb (reference_lane c pass lane slice j) lane (λ e. ne (el ∙ e)) in
    let none : (if is_own then index else 0) ≡ 0 = rw not_own refl in
    omega (arith, none, within.0, p.number) in
    (omega (arith, le, within.0, p.number), omega (arith, within.1, p.number, p.indices), other, omega (arith, within.1, p.number))

-- the last column of a longer list
pub columns_made_last : (c : Parameters) (h0 : List ℕ) (k n lane : ℕ) → length (matrix_columns c h0 k) ≡ n → lane < c.lanes
    → block_of (matrix_columns c h0 (suc k)) n lane ≡ next_block c (block_of (matrix_columns c h0 k)) n lane
unfolding matrix_columns
columns_made_last c h0 k n lane len hl =
    let col : List (List ℕ) = map (next_block c (block_of (matrix_columns c h0 k)) (length (matrix_columns c h0 k))) (range_with_len 0 c.lanes) in
    let seam : get_or (matrix_columns c h0 k ++ col ∷ []) (length (matrix_columns c h0 k)) [] ≡ col = get_or-append_seam (matrix_columns c h0 k) col [] [] in
    let seam' : get_or (matrix_columns c h0 k ++ col ∷ []) n [] ≡ col = ap (λ (i : ℕ). get_or (matrix_columns c h0 k ++ col ∷ []) i []) (sym len) ∙ seam in
    ap (λ (x : List (List ℕ)). get_or x lane []) seam'
    ∙ get_or-map-range_with_len (next_block c (block_of (matrix_columns c h0 k)) (length (matrix_columns c h0 k))) 0 c.lanes lane lane [] hl (omega arith)
    ∙ ap (λ (i : ℕ). next_block c (block_of (matrix_columns c h0 k)) i lane) len

-- the equation of B, from 2 on
pub block_is_next : (c : Parameters) (h0 : List ℕ) (n lane pass slice index : ℕ) → IsPlace c n pass slice index → 2 ≤ segment_len c → 2 ≤ n → lane < c.lanes
    → matrix_block c h0 n lane ≡ block_at c (matrix_block c h0) n pass lane slice index
block_is_next c h0 n lane pass slice index p hs hn hl =
    let k : ℕ = n - 2 in
    let en : n - 1 ≡ suc k = omega arith in
    let e2 : k + 2 ≡ n = omega arith in
    let len : length (matrix_columns c h0 k) ≡ n = length-matrix_columns c h0 k ∙ e2 in
    let here : matrix_block c h0 n lane ≡ block_of (matrix_columns c h0 (suc k)) n lane = sym (block_of-matrix_columns c h0 (suc k) n lane (omega arith)) in
    let last : block_of (matrix_columns c h0 (suc k)) n lane ≡ next_block c (block_of (matrix_columns c h0 k)) n lane = columns_made_last c h0 k n lane len hl in
    here ∙ last ∙ next_block_at c (block_of (matrix_columns c h0 k)) n lane pass slice index p
    ∙ block_at_same c (block_of (matrix_columns c h0 k)) (matrix_block c h0) n lane pass slice index
    (block_of-matrix_columns c h0 k (n - 1) lane (omega arith))
    (λ _. block_of-matrix_columns c h0 k (n - lane_len c) lane (omega arith))
    (λ j r l er el. block_of-matrix_columns c h0 k r l (let w = reads c n lane pass slice index j r l p hs hn er el in omega (arith, w.0, e2)))

-- the blocks of the first two columns
pub block_first : (c : Parameters) (h0 : List ℕ) (n l : ℕ) → n < 2 → l < c.lanes → matrix_block c h0 n l ≡ block_from_h0 h0 n l
unfolding matrix_block matrix_columns
block_first c h0 zero l h hl = get_or-map-range_with_len (block_from_h0 h0 0) 0 c.lanes l l [] hl (omega arith)
block_first c h0 (suc zero) l h hl = get_or-map-range_with_len (block_from_h0 h0 1) 0 c.lanes l l [] hl (omega arith)
block_first c h0 (suc (suc n)) l h hl = absurd (omega arith)
