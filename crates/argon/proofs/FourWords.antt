-- Vectors of the words of four lists, and the permutation P on four of them.
use Rattle.std.proofs.Common.{◌≡◌, ℕ, suc, ◌<◌, ◌+◌, ◌-◌, ◌*◌, ◌/◌, ◌%◌, ◌^◌, List, [], ap, length, replicate, slice_index, bit_or, arith, refl, ◌∙◌, w64, lit<, get_or}
use Rattle.std.proofs.lemmas.Simd.{get_or-zip2, get_or-replicate, length-zip2}
use Rattle.std.specs.Simd.Lanes.{zip2}
use Rattle.std.specs.Int.{rotate_right}
use Rattle.blake.specs.Words.{along}
use Rattle.blake.specs.Blake2b.{mixing_places}
use Rattle.argon.specs.Compression.{mixed_words, permutation, words_after_gb_steps}
use Rattle.four_words.proofs.FourWords.{below_four}
use Rattle.argon.specs.Inside.FourWords.{FourLists, turned_to_columns, turned_to_diagonals, list_at, word_of_each_vector}

-- two shifts of each word and an or are a rotation
pub shifts_rotate : (k : ℕ) → 0 < k → k < 64 → (a : List ℕ) → length a ≡ 16 → (j : ℕ) → j < 16
    → slice_index (zip2 bit_or
    (zip2 (λ x n. x / 2 ^ n) a (replicate 16 k))
    (zip2 (λ x n. x * 2 ^ n % 2 ^ 64) a (replicate 16 (64 - k)))) j
    ≡ rotate_right w64 (slice_index a j) k
shifts_rotate k low high a long j h =
    let left : k % 64 ≡ k = omega arith in
    let right : (64 - k) % 64 ≡ 64 - k = omega arith in
    let down = λ (x n : ℕ). x / 2 ^ n in
    let up = λ (x n : ℕ). x * 2 ^ n % 2 ^ 64 in
    let lowered : slice_index (zip2 down a (replicate 16 k)) j ≡ slice_index a j / 2 ^ k =
    get_or-zip2 down a (replicate 16 k) j 0 0 0 (omega arith) h ∙ ap (down (slice_index a j)) (get_or-replicate 16 j k 0 h) in
    let raised : slice_index (zip2 up a (replicate 16 (64 - k))) j ≡ slice_index a j * 2 ^ (64 - k) % 2 ^ 64 =
    get_or-zip2 up a (replicate 16 (64 - k)) j 0 0 0 (omega arith) h ∙ ap (up (slice_index a j)) (get_or-replicate 16 j (64 - k) 0 h) in
    get_or-zip2 bit_or (zip2 down a (replicate 16 k)) (zip2 up a (replicate 16 (64 - k))) j 0 0 0
    (omega (arith, length-zip2 down a (replicate 16 k) long)) (omega (arith, length-zip2 up a (replicate 16 (64 - k)) long))
    ∙ rw (lowered, raised, left, right) refl

-- a sum and twice a product, each modulo 2 ^ 64
pub twice_added : (a b x y : ℕ)
    → ((a + b) % 2 ^ 64 + (x * y % 2 ^ 64 + x * y % 2 ^ 64) % 2 ^ 64) % 2 ^ 64 ≡ (a + b + 2 * x * y) % 2 ^ 64
twice_added a b x y = omega arith

-- z is GB of x at the four places of each list
abbrev pub Mixes : FourLists → FourLists → Type 0
Mixes x z = (j : ℕ) → j < 16 → word_of_each_vector j z ≡ mixed_words (word_of_each_vector j x)

-- sixteen words after four GB more, from one of the eight on
abbrev mixed_from : ℕ → List ℕ → List ℕ
mixed_from k w =
    along mixed_words (along mixed_words (along mixed_words (along mixed_words w (get_or mixing_places k [])) (get_or mixing_places (suc k) []))
    (get_or mixing_places (suc (suc k)) [])) (get_or mixing_places (suc (suc (suc k))) [])

four_more : (v w u : List ℕ) (k : ℕ) → words_after_gb_steps v k ≡ w → mixed_from k w ≡ u
    → words_after_gb_steps v (suc (suc (suc (suc k)))) ≡ u
unfolding words_after_gb_steps
four_more v w u k h g = rw h g

none : (v : List ℕ) → words_after_gb_steps v 0 ≡ v
unfolding words_after_gb_steps
none v = refl

columns_are : (x z : FourLists) → Mixes x z → (k : ℕ) → k < 4 → mixed_from 0 (list_at k x) ≡ list_at k z
columns_are x z h = below_four (λ k. mixed_from 0 (list_at k x) ≡ list_at k z)
    (rw (← h 0 (lit< tt), ← h 1 (lit< tt), ← h 2 (lit< tt), ← h 3 (lit< tt)) refl)
    (rw (← h 4 (lit< tt), ← h 5 (lit< tt), ← h 6 (lit< tt), ← h 7 (lit< tt)) refl)
    (rw (← h 8 (lit< tt), ← h 9 (lit< tt), ← h 10 (lit< tt), ← h 11 (lit< tt)) refl)
    (rw (← h 12 (lit< tt), ← h 13 (lit< tt), ← h 14 (lit< tt), ← h 15 (lit< tt)) refl)

diagonals_are : (x z : FourLists) → Mixes (turned_to_diagonals x) z → (k : ℕ) → k < 4 → mixed_from 4 (list_at k x) ≡ list_at k (turned_to_columns z)
diagonals_are x z h = below_four (λ k. mixed_from 4 (list_at k x) ≡ list_at k (turned_to_columns z))
    (rw (← h 0 (lit< tt), ← h 1 (lit< tt), ← h 2 (lit< tt), ← h 3 (lit< tt)) refl)
    (rw (← h 4 (lit< tt), ← h 5 (lit< tt), ← h 6 (lit< tt), ← h 7 (lit< tt)) refl)
    (rw (← h 8 (lit< tt), ← h 9 (lit< tt), ← h 10 (lit< tt), ← h 11 (lit< tt)) refl)
    (rw (← h 12 (lit< tt), ← h 13 (lit< tt), ← h 14 (lit< tt), ← h 15 (lit< tt)) refl)

-- of each list: GB at the columns, a turn, GB at the diagonals and the turn back are P
pub permuted_is : (x y z : FourLists) → Mixes x y → Mixes (turned_to_diagonals y) z
    → (k : ℕ) → k < 4 → permutation (list_at k x) ≡ list_at k (turned_to_columns z)
permuted_is x y z h g k within =
    four_more (list_at k x) _ _ 4
    (four_more (list_at k x) _ _ 0 (none (list_at k x)) (columns_are x y h k within))
    (diagonals_are y z g k within)
