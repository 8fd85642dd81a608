-- The block of one column, as the code makes it from the buffer, against the equation of B (RFC 9106, 3.2 and 3.4).
use Rattle.std.proofs.Common.{◌≡◌, ℕ, zero, suc, ◌+◌, ◌-◌, ◌*◌, ◌/◌, ◌%◌, ◌^◌, ◌<◌, ◌≤◌, Bool, true, false, ◌&&◌, List, [], length, get_or, set, slice_index, refl, sym, ap, ◌∙◌, arith, nat_eq}
use Rattle.std.specs.Prelude.{if◌then◌else◌}
use Rattle.std.proofs.Math.Nat.{mul-le-mul_right, mul-add-mod_self_right, mod-eq_of_lt, add-mod_right}
use Rattle.argon.specs.Argon2.{block_at, is_xored_in, stored_block}
use Rattle.argon.specs.Buffer.{block_held}
use Rattle.argon.specs.Compression.{compression}
use Rattle.argon.specs.Counts.{first_index}
use Rattle.argon.specs.Parameters.{Parameters, lane_len, segment_len}
use Rattle.argon.proofs.MatrixBlocks.{stored_block_same}
use Rattle.argon.specs.Reference.{address_block, is_independent, reference_lane, reference_number, reference_set, reference_words, relative_place}

-- the word that the code takes is J
pub words_are : (c : Parameters) (pass lane slice index j : ℕ) (b : Bool) (addresses previous : List ℕ) → is_independent c pass slice ≡ b
    → (b ≡ true → addresses ≡ address_block c pass lane slice (index / 128 + 1))
    → (b ≡ true → j ≡ slice_index addresses (index % 128)) → (b ≡ false → j ≡ slice_index previous 0)
    → j ≡ reference_words c pass lane slice index previous
unfolding reference_words
words_are c pass lane slice index j true addresses previous e made free bound = rw e (rw (made refl) at (free refl))
words_are c pass lane slice index j false addresses previous e made free bound = rw e (bound refl)

-- the old block stands where the new one goes
old_place : (q n : ℕ) → q ≤ n → (n - q) % q ≡ n % q
old_place q n h = let e : n - q + q ≡ n = omega arith in sym (ap (λ (x : ℕ). x % q) (sym e) ∙ add-mod_right (n - q) q)

step_own : (c : Parameters) (buf : List (List ℕ)) (pass slice index lane before j named other : ℕ) (previous reference old new : List ℕ) (x : Bool)
    → is_xored_in c pass ≡ x → slice < 4 → index < segment_len c
    → before ≡ (pass * lane_len c + (slice * segment_len c + index) - 1) % lane_len c
    → previous ≡ get_or buf (lane * lane_len c + before) []
    → j ≡ reference_words c pass lane slice index previous
    → named ≡ (if nat_eq pass 0 && nat_eq slice 0 then lane else j / 2 ^ 32 % c.lanes)
    → other ≡ slice_index (reference_set (segment_len c) pass slice index (nat_eq named lane))
    (relative_place (length (reference_set (segment_len c) pass slice index (nat_eq named lane))) (j % 2 ^ 32)) % lane_len c
    → reference ≡ get_or buf (named * lane_len c + other) []
    → old ≡ get_or buf (lane * lane_len c + (slice * segment_len c + index)) []
    → new ≡ stored_block x old (compression previous reference)
    → new ≡ block_at c (block_held c buf) (pass * lane_len c + (slice * segment_len c + index)) pass lane slice index
unfolding block_at reference_number
step_own c buf pass slice index lane before j named other previous reference old new x ex hl hi eb ep ej en eo er eold e =
    let q : ℕ = lane_len c in
    let n : ℕ = pass * lane_len c + (slice * segment_len c + index) in
    let le : (slice + 1) * segment_len c ≤ 4 * segment_len c = mul-le-mul_right (segment_len c) (omega arith) in
    let here : n % q ≡ slice * segment_len c + index = mul-add-mod_self_right pass q (slice * segment_len c + index) ∙ mod-eq_of_lt (omega arith) in
    let prev : block_held c buf (n - 1) lane ≡ previous = rw (← eb) (sym ep) in
    let word : reference_words c pass lane slice index (block_held c buf (n - 1) lane) ≡ j =
    ap (reference_words c pass lane slice index) prev ∙ sym ej in
    let same : (0 < pass) → old ≡ block_held c buf (n - q) lane = λ later.
    let whole : 1 * lane_len c ≤ pass * lane_len c = mul-le-mul_right (lane_len c) later in
    let at : (n - q) % q ≡ slice * segment_len c + index = old_place q n (omega arith) ∙ here in
    rw at eold in
    let ref : reference ≡ block_held c buf (reference_number c pass lane slice index j) (reference_lane c pass lane slice j) =
    er ∙ rw (eo, en) refl in
    rw (word, prev, ← ref) (e ∙ ap (λ (b : Bool). stored_block b old (compression previous reference)) (sym ex)
    ∙ stored_block_same c pass old (block_held c buf (n - q) lane) (compression previous reference) same)

pub above_zero : (q s pass slice index : ℕ) → 2 ≤ s → 0 < q → (pass ≡ 0 → slice ≡ 0 → 2 ≤ index) → 0 < pass * q + (slice * s + index)
above_zero q s zero zero index hs hq first = let h = first refl refl in omega arith
above_zero q s zero (suc k) index hs hq first = omega arith
above_zero q s (suc k) slice index hs hq first = omega arith

-- the same by the numbers that the code has
pub step_is : (c : Parameters) (lanes seg : ℕ) → c.lanes ≡ lanes → segment_len c ≡ seg
    → (buf : List (List ℕ)) (pass slice index lane before j named other : ℕ) (previous reference old new : List ℕ) (x : Bool)
    → is_xored_in c pass ≡ x → slice < 4 → index < seg
    → before ≡ (pass * (4 * seg) + (slice * seg + index) - 1) % (4 * seg)
    → previous ≡ get_or buf (lane * (4 * seg) + before) []
    → j ≡ reference_words c pass lane slice index previous
    → named ≡ (if nat_eq pass 0 && nat_eq slice 0 then lane else j / 2 ^ 32 % lanes)
    → other ≡ slice_index (reference_set seg pass slice index (nat_eq named lane))
    (relative_place (length (reference_set seg pass slice index (nat_eq named lane))) (j % 2 ^ 32)) % (4 * seg)
    → reference ≡ get_or buf (named * (4 * seg) + other) []
    → old ≡ get_or buf (lane * (4 * seg) + (slice * seg + index)) []
    → new ≡ stored_block x old (compression previous reference)
    → new ≡ block_at c (block_held c buf) (pass * (4 * seg) + (slice * seg + index)) pass lane slice index
step_is c lanes seg el es = rw (← el, ← es) (step_own c)

-- the same in the buffer, by the places that the code has
pub stored_is : (c : Parameters) (lanes seg : ℕ) → c.lanes ≡ lanes → segment_len c ≡ seg
    → (buf : List (List ℕ)) (pass slice index lane before j named other : ℕ) (previous reference place : ℕ) (x : Bool)
    → previous ≡ lane * (4 * seg) + before → reference ≡ named * (4 * seg) + other → place ≡ lane * (4 * seg) + (slice * seg + index)
    → is_xored_in c pass ≡ x → slice < 4 → index < seg
    → before ≡ (pass * (4 * seg) + (slice * seg + index) - 1) % (4 * seg)
    → j ≡ reference_words c pass lane slice index (get_or buf previous [])
    → named ≡ (if nat_eq pass 0 && nat_eq slice 0 then lane else j / 2 ^ 32 % lanes)
    → other ≡ slice_index (reference_set seg pass slice index (nat_eq named lane))
    (relative_place (length (reference_set seg pass slice index (nat_eq named lane))) (j % 2 ^ 32)) % (4 * seg)
    → set buf place (stored_block x (get_or buf place []) (compression (get_or buf previous []) (get_or buf reference [])))
    ≡ set buf (lane * (4 * seg) + (slice * seg + index))
    (block_at c (block_held c buf) (pass * (4 * seg) + (slice * seg + index)) pass lane slice index)
stored_is c lanes seg el es buf pass slice index lane before j named other previous reference place x ep er et ex hl hi eb ej en eo =
    rw et (ap (set buf (lane * (4 * seg) + (slice * seg + index)))
    (step_is c lanes seg el es buf pass slice index lane before j named other (get_or buf previous []) (get_or buf reference []) _ _ x ex hl hi eb
    (ap (λ k. get_or buf k []) ep) ej en eo (ap (λ k. get_or buf k []) er) refl refl))

-- the column before one, around the end of the lane, by the number of the column before it
pub column_before : (pass q k before : ℕ) → 0 < q → 0 < pass * q + k → before ≡ (k + q - 1) % q → before ≡ (pass * q + k - 1) % q
column_before pass q k before some above e =
    let more : pass * q + k - 1 + q ≡ pass * q + (k + q - 1) = omega arith in
    e ∙ sym (mul-add-mod_self_right pass q (k + q - 1)) ∙ ap (λ (n : ℕ). n % q) (sym more) ∙ add-mod_right (pass * q + k - 1) q

-- what the index is at least, in the first slice
pub first_two : (pass slice index : ℕ) → first_index pass slice ≤ index → pass ≡ 0 → slice ≡ 0 → 2 ≤ index
first_two pass slice index h ep es = let f : first_index 0 0 ≤ index = rw (ep, es) at h in f
