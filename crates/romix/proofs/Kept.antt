-- The rows that a sparse table keeps, the rows after them, and what the turns cost.
use Rattle.std.proofs.Common.{◌≡◌, ℕ, zero, suc, ◌+◌, ◌*◌, ◌/◌, ◌%◌, ◌^◌, ◌<◌, ◌≤◌, List, arith, ap, sym, ◌∙◌, add-one, add-zero, refl, subst, inl, inr}
use Rattle.std.proofs.Math.Nat.{mul-mod_right, mul-div_cancel_left, mul-div-le, div-add-mod, mod-mod_of_dvd, mul-le-mul_left, div-lt_iff_lt-mul}
use Rattle.std.proofs.lemmas.Bool.{cases_lt}
use Rattle.std.proofs.lemmas.Nat.Gcd.{dvd_of_mod-eq-zero}
use Rattle.four_words.specs.Words.{xored_words}
use Rattle.romix.specs.BlockMix.{block_mix}
use Rattle.romix.specs.Inside.Diagonals.{row_in_standard_order}
use Rattle.romix.specs.Romix.{integerify, romix_row_after_turns, row_of_v}
use Rattle.romix.specs.Scrypt.{part_at, words_of}
use Rattle.romix.specs.Sparse.{mixes, block_mix_count_of_parts, mix_count_from_kept_rows}
use Rattle.romix.specs.SparseCosts.{CostsAndKeep}
use Rattle.romix.specs.Inside.Table.{row_at}

-- k rows on from row i
pub table_row_on : (b : List ℕ) (i k : ℕ) → row_of_v (row_of_v b i) k ≡ row_of_v b (i + k)
unfolding row_of_v
table_row_on b i zero = ap (row_of_v b) (sym (add-zero i))
table_row_on b i (suc k) = let e : i + suc k ≡ suc (i + k) = omega arith in rw (e, table_row_on b i k) refl

-- row j is j % s rows on from a kept one
pub row_from_kept : (b r : List ℕ) (s j : ℕ) → r ≡ row_of_v b (s * (j / s)) → row_of_v r (j % s) ≡ row_of_v b j
row_from_kept b r s j e = rw (e, table_row_on b (s * (j / s)) (j % s), div-add-mod j s) refl

row_is_kept : (u r b : List ℕ) (len s j k : ℕ) → 0 < s → j ≡ s * k → row_in_standard_order r ≡ row_of_v b j → (j % s ≡ 0 → row_at u len (j / s) ≡ r)
    → row_in_standard_order (row_at u len k) ≡ row_of_v b (s * k)
row_is_kept u r b len s j k some e is here =
    let none : j % s ≡ 0 = ap (λ (n : ℕ). n % s) e ∙ mul-mod_right s k in
    let place : j / s ≡ k = ap (λ (n : ℕ). n / s) e ∙ mul-div_cancel_left k some in
    ap (λ (n : ℕ). row_in_standard_order (row_at u len n)) (sym place) ∙ ap row_in_standard_order (here none) ∙ is ∙ ap (row_of_v b) e

-- row j is kept if s divides j, and the rows that were kept stay
pub kept_more : (t u b r : List ℕ) (len l s j i : ℕ) → l ≡ len → 0 < s → i ≡ j + 1 → row_in_standard_order r ≡ row_of_v b j
    → (j % s ≡ 0 → row_at u l (j / s) ≡ r) → ((k : ℕ) → s * k < j → row_at u l k ≡ row_at t l k)
    → ((k : ℕ) → s * k < j → row_in_standard_order (row_at t len k) ≡ row_of_v b (s * k))
    → (k : ℕ) → s * k < i → row_in_standard_order (row_at u len k) ≡ row_of_v b (s * k)
kept_more t u b r len l s j i same some next is here below had k h =
    elim (cases_lt (s * k) j) [
      | inl low ↦ ap row_in_standard_order (subst (λ (m : ℕ). row_at u m k ≡ row_at t m k) same (below k low)) ∙ had k low
      | inr g ↦ row_is_kept u r b len s j k some (omega arith) is (λ e. subst (λ (m : ℕ). row_at u m (j / s) ≡ r) same (here e))
    ]

-- the table has room for each row that is kept
pub kept_room : (n s j : ℕ) → 0 < s → n % s ≡ 0 → j < n → j / s + 1 ≤ n / s
kept_room n s j some whole h =
    let e : n ≡ n / s * s = omega (arith, div-add-mod n s) in
    omega (arith, (div-lt_iff_lt-mul {x = j} {y = n / s} some).1 (subst (λ (m : ℕ). j < m) e h))

pub row_room : (l len t n s j : ℕ) → l ≡ len → t ≡ len * (n / s) → 0 < s → n % s ≡ 0 → j < n → l * (j / s + 1) ≤ t
row_room l len t n s j hl ht some whole h = rw (hl, ht) (mul-le-mul_left len (kept_room n s j some whole h))

-- the kept row at or below row j
pub kept_below : (t b : List ℕ) (len l s j n : ℕ) → l ≡ len → j < n → ((k : ℕ) → s * k < n → row_in_standard_order (row_at t len k) ≡ row_of_v b (s * k))
    → row_in_standard_order (row_at t l (j / s)) ≡ row_of_v b (s * (j / s))
kept_below t b len l s j n same h rows = rw same (rows (j / s) (omega (arith, mul-div-le j s)))

pub first_row : (b s : List ℕ) (j : ℕ) → s ≡ block_mix b → j ≡ 1 → s ≡ row_of_v b j
unfolding row_of_v
first_row b s j hs e = rw (e, hs) refl

-- X after one more turn, whose row is read from a kept one
pub turn_more : (b x z y t : List ℕ) (n s i j k : ℕ) → 0 < s → n % s ≡ 0 → x ≡ romix_row_after_turns b n i → j ≡ integerify x % n
    → t ≡ row_of_v b (s * (j / s)) → y ≡ xored_words x (row_of_v t (j % s)) → z ≡ block_mix y → k ≡ i + 1
    → (z ≡ romix_row_after_turns b n k) × (mix_count_from_kept_rows b n s k ≡ mix_count_from_kept_rows b n s i + j % s)
unfolding romix_row_after_turns mix_count_from_kept_rows
turn_more b x z y t n s i j k some whole hx hj ht hy hz hk =
    let low : j % s ≡ integerify x % s = ap (λ (m : ℕ). m % s) hj ∙ mod-mod_of_dvd s (integerify x) (dvd_of_mod-eq-zero s whole) in (
      rw (hk, add-one i, hz, hy, row_from_kept b t s j ht, hj, hx),
      rw (hk, add-one i, low, hx),
    )

-- the count of a turn
pub count_more : (t c u v len l m n i w w' k d : ℕ) → t ≡ c + (n + i + w) * (len / 16) → l ≡ len → m ≡ len → u ≡ t + d * (l / 16) → v ≡ u + m / 16
    → w' ≡ w + d → k ≡ i + 1 → v ≡ c + (n + k + w') * (len / 16)
count_more t c u v len l m n i w w' k d ht hl hm hu hv hw hk = rw (hv, hu, ht, hl, hm, hw, hk) (omega arith)

-- ---- of the parts

-- the BlockMixes of one more part
pub mixes_more : (b w : List ℕ) (s : CostsAndKeep) (k : ℕ) → w ≡ words_of (part_at b s.costs.r k) (32 * s.costs.r)
    → block_mix_count_of_parts b s (k + 1) ≡ block_mix_count_of_parts b s k + mixes w (2 ^ s.costs.log_n) s.keep
unfolding block_mix_count_of_parts
mixes_more b w s k e = rw (add-one k, e) refl

-- the count of one more part
pub count_part : (c t u x y w r l : ℕ) → t ≡ c + 2 * r * x → u ≡ t + y * (l / 16) → l ≡ 32 * r → w ≡ x + y → u ≡ c + 2 * r * w
count_part c t u x y w r l ht hu hl hw =
    let twice : 32 * r / 16 ≡ 2 * r = omega arith in
    rw (hu, ht, hl, twice, hw) (omega arith)
