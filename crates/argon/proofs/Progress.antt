-- The lanes' progress through a slice.
use Rattle.std.proofs.Common.{◌≡◌, ◌≢◌, ℕ, zero, suc, ◌+◌, ◌*◌, ◌/◌, ◌<◌, ◌≤◌, inl, inr, Bool, true, false, refl, ◌∙◌, arith, nat_eq}
use Rattle.std.specs.Prelude.{if◌then◌else◌, ◌&&◌, min, max}
use Rattle.std.proofs.lemmas.Bool.{ne_eqb, cases_lt}
use Rattle.std.proofs.lemmas.Bool.Decides.{nat_tests}
use Rattle.argon.specs.Buffer.{column_number_after_slices}
use Rattle.argon.specs.Counts.{address_block_count, address_work, address_blocks_made_at, first_index}
use Rattle.argon.specs.Parameters.{Parameters, lane_len, segment_len}

pub two_below : (s pass slice index : ℕ) → 2 ≤ s → (pass ≡ 0 → slice ≡ 0 → 2 ≤ index) → 2 ≤ pass * (4 * s) + (slice * s + index)
two_below s zero zero index hs first = let h = first refl refl in omega arith
two_below s zero (suc k) index hs first = omega arith
two_below s (suc k) slice index hs first = omega arith

first_below : (b : Bool) → (if b then 2 else 0) ≤ 2
first_below true = omega arith
first_below false = omega arith

pub first_index-le : (pass slice : ℕ) → first_index pass slice ≤ 2
first_index-le pass slice = first_below (nat_eq pass 0 && nat_eq slice 0)

-- the number of the address block that a column's word stands in
pub part_of : (first len part index : ℕ) → first ≤ 2 → 128 * part < len
    → max first (min (128 * part) len) ≤ index → index < max first (min (128 * (part + 1)) len)
    → (index / 128 ≡ part) × (2 ≤ len → index < len) × (first ≤ index)
part_of first len part index h lt from to = (omega arith, λ two. omega arith, omega arith)

-- one more column with the address blocks that are made with it
pub addresses_more : (b : Bool) (index : ℕ)
    → address_work b (max 1 (address_block_count (index + 1))) ≡ address_work b (max 1 (address_block_count index)) + address_work b (address_blocks_made_at index)
addresses_more true index = grind (arith, nat_tests)
addresses_more false index = refl

-- ---- a whole slice

pub next_later : (c : Parameters) (k : ℕ) → 0 < k → column_number_after_slices c k ≡ k * segment_len c
next_later c zero h = absurd (omega arith)
next_later c (suc k) h = refl

pub first_none : (pass slice : ℕ) → 0 < 4 * pass + slice → first_index pass slice ≡ 0
first_none zero zero h = absurd (omega arith)
first_none zero (suc slice) h = let ne : suc slice ≢ 0 = omega arith in rw (ne_eqb (suc slice) 0 ne) refl
first_none (suc pass) slice h = let ne : suc pass ≢ 0 = omega arith in rw (ne_eqb (suc pass) 0 ne) refl

-- the number that comes next at the start of a slice
pub next_is : (c : Parameters) (pass slice : ℕ)
    → column_number_after_slices c (4 * pass + slice) ≡ pass * lane_len c + (slice * segment_len c + first_index pass slice)
next_is c pass slice =
    elim (cases_lt 0 (4 * pass + slice)) [
      | inl later ↦
          let none : first_index pass slice ≡ 0 = first_none pass slice later in
          next_later c (4 * pass + slice) later ∙ omega arith
      | inr start ↦
          let ep : pass ≡ 0 = omega arith in
          let es : slice ≡ 0 = omega arith in
          rw (ep, es) (omega arith)
    ]

-- the number that comes next at its end
pub next_end : (c : Parameters) (pass slice : ℕ)
    → column_number_after_slices c (4 * pass + slice + 1) ≡ pass * lane_len c + (slice * segment_len c + segment_len c)
next_end c pass slice = next_later c (4 * pass + slice + 1) (omega arith) ∙ omega arith
