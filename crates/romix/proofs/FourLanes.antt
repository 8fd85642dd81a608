-- Vectors of four words, lane by lane.
use Rattle.std.proofs.Common.{◌≡◌, ℕ, ◌<◌, ◌-◌, ◌*◌, ◌/◌, ◌%◌, ◌^◌, List, [], ◌∷◌, length, slice_index, bit_or, bit_xor, arith, refl, lit<}
use Rattle.std.specs.Simd.Lanes.{zip2}
use Rattle.four_words.proofs.FourWords.{below_four, each_of_four}
use Rattle.romix.specs.declared.lanes.Lanes.{Lanes}
use Rattle.romix.specs.Inside.Lanes.{words_by_diagonals}
use Rattle.romix.specs.Salsa20.{quarter_step, word_sum, word_sums}

-- a sum, two shifts of each lane, an or and an xor, as the code has them, give a step of the quarterround
abbrev IsStep : ℕ → List ℕ → List ℕ → List ℕ → Type 0
IsStep k y a b = (j : ℕ) → j < 4
    → slice_index (zip2 bit_xor y (zip2 bit_or
    (zip2 (λ x n. x * 2 ^ n % 2 ^ 32) (zip2 word_sum a b) (k ∷ k ∷ k ∷ k ∷ []))
    (zip2 (λ x n. x / 2 ^ n) (zip2 word_sum a b) ((32 - k) ∷ (32 - k) ∷ (32 - k) ∷ (32 - k) ∷ [])))) j
    ≡ quarter_step (slice_index y j) (slice_index a j) (slice_index b j) k

-- a rotation is the or of two shifts, whose counts are taken modulo 32
pub shifts_are_a_step : (k : ℕ) → 0 < k → k < 32 → (y : List ℕ) → length y ≡ 4 → (a : List ℕ) → length a ≡ 4
    → (b : List ℕ) → length b ≡ 4 → IsStep k y a b
shifts_are_a_step k low high =
    let left : k % 32 ≡ k = omega arith in
    let right : (32 - k) % 32 ≡ 32 - k = omega arith in
    each_of_four (λ y. (a : List ℕ) → length a ≡ 4 → (b : List ℕ) → length b ≡ 4 → IsStep k y a b) (λ y0 y1 y2 y3.
    each_of_four (λ a. (b : List ℕ) → length b ≡ 4 → IsStep k (y0 ∷ y1 ∷ y2 ∷ y3 ∷ []) a b) (λ a0 a1 a2 a3.
    each_of_four (IsStep k (y0 ∷ y1 ∷ y2 ∷ y3 ∷ []) (a0 ∷ a1 ∷ a2 ∷ a3 ∷ [])) (λ b0 b1 b2 b3.
    below_four _ (rw (left, right) refl) (rw (left, right) refl) (rw (left, right) refl) (rw (left, right) refl))))

-- s is the sum of x and y, lane by lane
abbrev pub IsSum : List ℕ → List ℕ → List ℕ → Type 0
IsSum s x y = (j : ℕ) → j < 4 → slice_index s j ≡ word_sum (slice_index x j) (slice_index y j)

-- four such sums are the sum of sixteen words
pub sixteen_sums : (x y s : Lanes) → IsSum s.first x.first y.first → IsSum s.second x.second y.second
    → IsSum s.third x.third y.third → IsSum s.fourth x.fourth y.fourth
    → words_by_diagonals s ≡ word_sums (words_by_diagonals x) (words_by_diagonals y)
sixteen_sums x y s a b c d =
    rw (
      a 0 (lit< tt),
      a 1 (lit< tt),
      a 2 (lit< tt),
      a 3 (lit< tt),
      b 0 (lit< tt),
      b 1 (lit< tt),
      b 2 (lit< tt),
      b 3 (lit< tt),
      c 0 (lit< tt),
      c 1 (lit< tt),
      c 2 (lit< tt),
      c 3 (lit< tt),
      d 0 (lit< tt),
      d 1 (lit< tt),
      d 2 (lit< tt),
      d 3 (lit< tt),
    ) refl
