-- One slice after another, and how many block functions all of them take.
use Rattle.std.proofs.Common.{◌≡◌, ◌≢◌, ℕ, zero, suc, ◌+◌, ◌-◌, ◌*◌, ◌/◌, ◌%◌, ◌<◌, ◌≤◌, inl, inr, Bool, true, false, ◌&&◌, nat_eq, nat_lt, refl, sym, ap, ◌∙◌, arith}
use Rattle.std.proofs.lemmas.Bool.{ne_eqb, le-ltb, cases_lt}
use Rattle.std.proofs.lemmas.Bool.Decides.{eqb_tells}
use Rattle.std.proofs.Math.Nat.{mul-le-mul_right, mul-le-mul_left}
use Rattle.argon.specs.Counts.{address_block_count, address_work, first_index, independent_segment_count, slice_work, work}
use Rattle.argon.specs.Parameters.{Parameters, segment_len}
use Rattle.argon.specs.Range.{IsInRangeWithAnyPassword}
use Rattle.argon.specs.Reference.{is_independent}
use Rattle.argon.proofs.Progress.{first_none}

-- ---- counts

-- the block functions of the first so many slices of all passes
unfoldable pub slices_work : Parameters → ℕ → ℕ
slices_work parameters zero = 0
slices_work parameters (suc count) = slices_work parameters count + slice_work parameters (count / 4) (count % 4)

one_if : Bool → ℕ
one_if true = 1
one_if false = 0

-- how many of the first k slices have independent addressing
unfoldable independents : Parameters → ℕ → ℕ
independents c zero = 0
independents c (suc k) = independents c k + one_if (is_independent c (k / 4) (k % 4))

address_work_is : (b : Bool) (a : ℕ) → address_work b a ≡ 2 * a * one_if b
unfolding one_if
address_work_is true a = omega arith
address_work_is false a = omega arith

parts : (p s a i : ℕ) → p * (s - 0 + 2 * a * i) ≡ p * s + 2 * a * (p * i)
parts p s a i =
    let e : s - 0 + 2 * a * i ≡ s + 2 * a * i = omega arith in
    ap (λ (x : ℕ). p * x) e ∙ grind arith

slice_later : (c : Parameters) (pass slice : ℕ) → 0 < 4 * pass + slice
    → slice_work c pass slice ≡ c.lanes * segment_len c + 2 * address_block_count (segment_len c) * (c.lanes * one_if (is_independent c pass slice))
slice_later c pass slice h =
    let none : first_index pass slice ≡ 0 = first_none pass slice h in
    let work : address_work (is_independent c pass slice) (address_block_count (segment_len c)) ≡ 2 * address_block_count (segment_len c) * one_if (is_independent c pass slice) =
    address_work_is (is_independent c pass slice) (address_block_count (segment_len c)) in
    rw (none, work) (parts c.lanes (segment_len c) (address_block_count (segment_len c)) (one_if (is_independent c pass slice)))

pub slices_more : (c : Parameters) (k : ℕ) → slices_work c (k + 1) ≡ slices_work c k + slice_work c (k / 4) (k % 4)
unfolding slices_work
slices_more c k = let e : k + 1 ≡ suc k = omega arith in rw e refl

parts_first : (p s a i : ℕ) → 2 ≤ s → p * (s - 2 + 2 * a * i) + 2 * p ≡ p * s + 2 * a * (p * i)
parts_first p s a i h =
    let x : ℕ = s - 2 + 2 * a * i in
    let e : s - 2 + 2 * a * i + 2 ≡ s + 2 * a * i = omega arith in
    let f : p * (s - 2 + 2 * a * i) + 2 * p ≡ p * (s - 2 + 2 * a * i + 2) = grind arith in
    f ∙ ap (λ (x : ℕ). p * x) e ∙ grind arith

slice_first : (c : Parameters) → 2 ≤ segment_len c
    → slice_work c 0 0 + 2 * c.lanes ≡ c.lanes * segment_len c + 2 * address_block_count (segment_len c) * (c.lanes * one_if (is_independent c 0 0))
slice_first c hs =
    let work : address_work (is_independent c 0 0) (address_block_count (segment_len c)) ≡ 2 * address_block_count (segment_len c) * one_if (is_independent c 0 0) =
    address_work_is (is_independent c 0 0) (address_block_count (segment_len c)) in
    rw work (parts_first c.lanes (segment_len c) (address_block_count (segment_len c)) (one_if (is_independent c 0 0)) hs)

sum_parts : (w v p x a i b k : ℕ) → w + 2 * p ≡ suc k * x + 2 * a * (p * i) → v ≡ x + 2 * a * (p * b)
    → (w + v) + 2 * p ≡ suc (suc k) * x + 2 * a * (p * (i + b))
sum_parts w v p x a i b k hw hv =
    let e : suc (suc k) * x ≡ suc k * x + x = grind arith in
    let f : 2 * a * (p * (i + b)) ≡ 2 * a * (p * i) + 2 * a * (p * b) = grind arith in
    omega arith

-- the count of slices, by how many are independent
slices_from : (c : Parameters) (k : ℕ) → 2 ≤ segment_len c
    → slices_work c (suc k) + 2 * c.lanes ≡ suc k * (c.lanes * segment_len c) + 2 * address_block_count (segment_len c) * (c.lanes * independents c (suc k))
unfolding slices_work independents
slices_from c zero hs =
    let first = slice_first c hs in
    let one : 1 * (c.lanes * segment_len c) ≡ c.lanes * segment_len c = omega arith in
    let none : 0 + one_if (is_independent c 0 0) ≡ one_if (is_independent c 0 0) = omega arith in
    let start : 0 + slice_work c 0 0 ≡ slice_work c 0 0 = omega arith in
    rw (one, none, start) first
slices_from c (suc k) hs =
    sum_parts (slices_work c (suc k)) (slice_work c (suc k / 4) (suc k % 4)) c.lanes (c.lanes * segment_len c) (address_block_count (segment_len c))
    (independents c (suc k)) (one_if (is_independent c (suc k / 4) (suc k % 4))) k
    (slices_from c k hs) (slice_later c (suc k / 4) (suc k % 4) (omega arith))

all_independent : (c : Parameters) (k : ℕ) → c.kind ≡ 1 → independents c k ≡ k
unfolding independents one_if
all_independent c zero e = refl
all_independent c (suc k) e =
    let b : is_independent c (k / 4) (k % 4) ≡ true = rw e refl in
    let one : one_if (is_independent c (k / 4) (k % 4)) ≡ 1 = ap one_if b in
    let step : independents c (suc k) ≡ independents c k + one_if (is_independent c (k / 4) (k % 4)) = refl in
    omega (arith, all_independent c k e)

none_independent : (c : Parameters) (k : ℕ) → c.kind ≡ 0 → independents c k ≡ 0
unfolding independents one_if
none_independent c zero e = refl
none_independent c (suc k) e =
    let b : is_independent c (k / 4) (k % 4) ≡ false = rw e refl in
    let one : one_if (is_independent c (k / 4) (k % 4)) ≡ 0 = ap one_if b in
    let step : independents c (suc k) ≡ independents c k + one_if (is_independent c (k / 4) (k % 4)) = refl in
    omega (arith, none_independent c k e)

past_two : (pass slice : ℕ) → (pass ≡ 0 → 2 ≤ slice) → (nat_eq pass 0 && nat_lt slice 2) ≡ false
past_two zero slice h = rw (le-ltb slice 2 (h refl)) refl
past_two (suc pass) slice h = let ne : suc pass ≢ 0 = omega arith in rw (ne_eqb (suc pass) 0 ne) refl

two_independent : (c : Parameters) (k : ℕ) → c.kind ≡ 2 → independents c (suc (suc k)) ≡ 2
unfolding independents one_if
two_independent c zero e = rw e refl
two_independent c (suc k) e =
    let m : ℕ = suc (suc k) in
    let b : is_independent c (suc (suc k) / 4) (suc (suc k) % 4) ≡ false = rw e (past_two (suc (suc k) / 4) (suc (suc k) % 4) (λ z. omega arith)) in
    let one : one_if (is_independent c (suc (suc k) / 4) (suc (suc k) % 4)) ≡ 0 = ap one_if b in
    let step : independents c (suc (suc (suc k))) ≡ independents c (suc (suc k)) + one_if (is_independent c (suc (suc k) / 4) (suc (suc k) % 4)) = refl in
    omega (arith, two_independent c k e)

segments_are : (c : Parameters) (k : ℕ) → c.kind ≤ 2 → 4 * c.passes ≡ suc (suc k)
    → c.lanes * independents c (suc (suc k)) ≡ independent_segment_count c
segments_are c k h e =
    elim (eqb_tells c.kind 1) [
      | inl i ↦ ap (λ (x : ℕ). c.lanes * x) (all_independent c (suc (suc k)) i.1 ∙ sym e) ∙ rw i.1 (grind arith)
      | inr other ↦ elim (eqb_tells c.kind 2) [
        | inl id ↦ ap (λ (x : ℕ). c.lanes * x) (two_independent c k id.1) ∙ rw id.1 (omega arith)
        | inr neither ↦
            let d : c.kind ≡ 0 = let a = other.1 in let b = neither.1 in omega arith in
            ap (λ (x : ℕ). c.lanes * x) (none_independent c (suc (suc k)) d) ∙ rw d (omega arith)
      ]
    ]

done : (w p t s a i n : ℕ) → w + 2 * p ≡ 4 * t * (p * s) + 2 * a * (p * i) → p * i ≡ n → 2 * p ≤ t * (p * (4 * s)) → w ≡ t * (p * (4 * s)) - 2 * p + 2 * a * n
done w p t s a i n h e le =
    let f : t * (p * (4 * s)) ≡ 4 * t * (p * s) = grind arith in
    let g : 2 * a * (p * i) ≡ 2 * a * n = ap (λ (x : ℕ). 2 * a * x) e in
    omega arith

-- all slices take what the parameters say
pub slices_work_is : (c : Parameters) → 2 ≤ segment_len c → 1 ≤ c.passes → c.kind ≤ 2 → slices_work c (4 * c.passes) ≡ work c
slices_work_is c hs hp hk =
    let k : ℕ = 4 * c.passes - 2 in
    let e : 4 * c.passes ≡ suc (suc k) = omega arith in
    let all : slices_work c (4 * c.passes) + 2 * c.lanes ≡ 4 * c.passes * (c.lanes * segment_len c) + 2 * address_block_count (segment_len c) * (c.lanes * independents c (4 * c.passes)) =
    rw e (slices_from c (suc k) hs) in
    let segments : c.lanes * independents c (4 * c.passes) ≡ independent_segment_count c = rw e (segments_are c k hk e) in
    let one : 1 * (c.lanes * (4 * segment_len c)) ≤ c.passes * (c.lanes * (4 * segment_len c)) = mul-le-mul_right (c.lanes * (4 * segment_len c)) hp in
    let two : c.lanes * 2 ≤ c.lanes * (4 * segment_len c) = mul-le-mul_left c.lanes (omega arith) in
    done (slices_work c (4 * c.passes)) c.lanes c.passes (segment_len c) (address_block_count (segment_len c)) (independents c (4 * c.passes)) (independent_segment_count c)
    all segments (omega arith)

-- in range there are two columns a segment at least
pub range_long : (p : Parameters) → IsInRangeWithAnyPassword p → 2 ≤ segment_len p
range_long p h =
    elim (cases_lt (segment_len p) 2) [
      | inr le ↦ le
      | inl lt ↦
          let some : 0 < 4 * p.lanes = omega (arith, h.lanes) in
          let all : p.memory_kib < (p.memory_kib / (4 * p.lanes) + 1) * (4 * p.lanes) = div-lt p.memory_kib (4 * p.lanes) some in
          let two : (p.memory_kib / (4 * p.lanes) + 1) * (4 * p.lanes) ≤ 2 * (4 * p.lanes) = mul-le-mul_right (4 * p.lanes) (omega arith) in
          absurd (omega (arith, h.memory))
    ]
  where
    div-lt : (m d : ℕ) → 0 < d → m < (m / d + 1) * d
    div-lt m d h = omega arith
