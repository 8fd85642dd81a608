-- What is read for a block: places outside the slice, and along the plan.
use Rattle.std.proofs.Common.{◌≡◌, ◌≢◌, inl, inr, ℕ, ◌+◌, ◌-◌, ◌*◌, ◌/◌, ◌%◌, ◌<◌, ◌≤◌, true, List, refl, sym, ap, ◌∙◌, arith}
use Rattle.std.proofs.lemmas.Bool.{cases_lt}
use Rattle.std.proofs.Math.Nat.{mul-le-mul_right, mod-lt}
use Rattle.argon.specs.Argon2.{block_at, stored_block_by_j1_j2}
use Rattle.argon.specs.Buffer.{block_held}
use Rattle.argon.specs.Laws.{IsMadeByReference}
use Rattle.argon.specs.Parameters.{Parameters, lane_len, segment_len}
use Rattle.argon.specs.Plan.{IsMadeAlongPlan}
use Rattle.argon.specs.Reference.{ReadsFinishedSegments, is_independent, reference_lane, reference_number}
use Rattle.argon.proofs.Buffer.{block_at_is_block}
use Rattle.argon.proofs.ColumnBlock.{first_two}
use Rattle.argon.proofs.Independent.{word_is}
use Rattle.argon.proofs.MatrixBlocks.{IsPlace, reads}
use Rattle.argon.proofs.Progress.{two_below}

-- the number of the block's column
abbrev number_of : Parameters → ℕ → ℕ → ℕ → ℕ
number_of c pass slice index = pass * lane_len c + (slice * segment_len c + index)

place_is : (c : Parameters) (pass lane slice index : ℕ) → IsMadeByReference c pass lane slice index → IsPlace c (number_of c pass slice index) pass slice index
place_is c pass lane slice index m = record { number = refl; slices = m.slices; indices = m.to }

two_is : (c : Parameters) (pass lane slice index : ℕ) → IsMadeByReference c pass lane slice index → 2 ≤ number_of c pass slice index
two_is c pass lane slice index m = two_below (segment_len c) pass slice index m.long (first_two pass slice index m.from)

-- where a number stands that is below a slice's and not more than the other slices before it
not_here : (s q number pass slice : ℕ) → q ≡ 4 * s → 2 ≤ s → slice < 4 → number < pass * q + slice * s → pass * q + slice * s + s ≤ number + q
    → number % q / s ≢ slice
not_here s q number pass slice eq hs hl below near e =
    let a : ℕ = number / q in
    let column : ℕ = number % q in
    let k : ℕ = column % s in
    let split : number ≡ number / q * q + number % q = omega arith in
    let at : number % q ≡ number % q / s * s + number % q % s = omega arith in
    let small : number % q % s < s = mod-lt column (omega arith) in
    let here : number % q / s * s ≡ slice * s = ap (λ (x : ℕ). x * s) e in
    elim (cases_lt a pass) [
      | inl lt ↦ let le : (a + 1) * q ≤ pass * q = mul-le-mul_right q (omega arith) in omega arith
      | inr ge ↦ let le : pass * q ≤ a * q = mul-le-mul_right q ge in omega arith
    ]

pub reads_finished : (c : Parameters) (pass lane slice index : ℕ) → IsMadeByReference c pass lane slice index → ReadsFinishedSegments c pass lane slice index
reads_finished c pass lane slice index m j other =
    let w = reads c (number_of c pass slice index) lane pass slice index j (reference_number c pass lane slice index j) (reference_lane c pass lane slice j)
    (place_is c pass lane slice index m) m.long (two_is c pass lane slice index m) refl refl in
    let below = w.2 other in
    not_here (segment_len c) (lane_len c) (reference_number c pass lane slice index j) pass slice refl m.long m.slices (omega arith) (omega (arith, w.3))

pub made_along_plan : (c : Parameters) (h0 : List ℕ) (blocks : List (List ℕ)) (next : ℕ → ℕ) (pass lane slice index : ℕ)
    → IsMadeByReference c pass lane slice index → is_independent c pass slice ≡ true → IsMadeAlongPlan c h0 blocks next pass lane slice index
unfolding block_at
made_along_plan c h0 blocks next pass lane slice index m free newest within at =
    let n : ℕ = number_of c pass slice index in
    sym (block_at_is_block c h0 blocks next n lane pass slice index newest within (place_is c pass lane slice index m) m.long (two_is c pass lane slice index m) m.lanes at)
    ∙ ap (stored_block_by_j1_j2 c (block_held c blocks) n pass lane slice index) (word_is c pass lane slice index (block_held c blocks (n - 1) lane) free)
