-- Rows in the order of the diagonals, and in their own.
use Rattle.std.proofs.Common.{bit_xor, ◌%◌, lit<, ◌≡◌, ℕ, zero, suc, ◌+◌, ◌-◌, ◌*◌, ◌/◌, ◌<◌, ◌≤◌, List, [], ◌∷◌, ◌++◌, length, take, drop, slice_index, refl, sym, ap, ◌∙◌, arith}
use Rattle.std.proofs.lemmas.List.{drop-drop, length-drop, length-take-le, take_all, take-append-le, drop-append-le}
use Rattle.std.proofs.lemmas.Simd.{get_or-chunk, get_or-zip2, length-zip2}
use Rattle.four_words.specs.Words.{xored_words}
use Rattle.romix.specs.BlockMix.{block_at}
use Rattle.romix.specs.Inside.Diagonals.{row_in_standard_order, block_in_standard_order, blocks_in_standard_order}

-- a block has sixteen words
pub length-blocks_in_standard_order : (n : ℕ) (w : List ℕ) → length (blocks_in_standard_order n w) ≡ 16 * n
unfolding blocks_in_standard_order
length-blocks_in_standard_order zero w = refl
length-blocks_in_standard_order (suc n) w = omega (arith, length-blocks_in_standard_order n (drop 16 w))

-- a block of a row in its own order
pub block_at-blocks_in_standard_order : (n : ℕ) (w : List ℕ) (i : ℕ) → i < n → block_at (blocks_in_standard_order n w) i ≡ block_in_standard_order (block_at w i)
unfolding blocks_in_standard_order
block_at-blocks_in_standard_order zero w i h = absurd (omega arith)
block_at-blocks_in_standard_order (suc n) w zero h = refl
block_at-blocks_in_standard_order (suc n) w (suc i) h =
    let e : 16 * suc i ≡ 16 + 16 * i = omega arith in
    let rest : List ℕ = blocks_in_standard_order n (drop 16 w) in
    let ih = block_at-blocks_in_standard_order n (drop 16 w) i (omega arith) in
    let there = drop-drop (16 * i) 16 w in
    let here = drop-drop (16 * i) 16 (block_in_standard_order (take 16 w) ++ rest) in
    rw (e, ← here, ← there) ih

-- a row after another
pub blocks_in_standard_order-append : (m n k : ℕ) (xs ys : List ℕ) → length xs ≡ 16 * m → k ≡ m + n
    → blocks_in_standard_order k (xs ++ ys) ≡ blocks_in_standard_order m xs ++ blocks_in_standard_order n ys
unfolding blocks_in_standard_order
blocks_in_standard_order-append zero n k [] ys h e = let f : k ≡ n = omega arith in rw f refl
blocks_in_standard_order-append zero n k (x ∷ xs) ys h e = absurd (omega arith)
blocks_in_standard_order-append (suc m) n zero xs ys h e = absurd (omega arith)
blocks_in_standard_order-append (suc m) n (suc k) xs ys h e =
    let front : take 16 (xs ++ ys) ≡ take 16 xs = take-append-le 16 xs ys (omega arith) in
    let back : drop 16 (xs ++ ys) ≡ drop 16 xs ++ ys = drop-append-le 16 xs ys (omega arith) in
    let ih = blocks_in_standard_order-append m n k (drop 16 xs) ys (omega (arith, length-drop 16 xs)) (omega arith) in
    rw (front, back, ih) refl

-- one more block is written
pub blocks_in_standard_order-written : (old new z : List ℕ) (i : ℕ) → 16 * i ≤ length old → length z ≡ 16
    → take (16 * (i + 1)) new ≡ take (16 * i) old ++ z
    → blocks_in_standard_order (i + 1) (take (16 * (i + 1)) new) ≡ blocks_in_standard_order i (take (16 * i) old) ++ block_in_standard_order z
unfolding blocks_in_standard_order
blocks_in_standard_order-written old new z i h long e =
    rw e (blocks_in_standard_order-append i 1 (i + 1) (take (16 * i) old) z (length-take-le (16 * i) old h) refl
    ∙ ap (λ (l : List ℕ). blocks_in_standard_order i (take (16 * i) old) ++ block_in_standard_order l) (take_all 16 z (omega arith)))

-- ---- the xor of rows

-- a front of the xor
take-xored_words : (n : ℕ) (u v : List ℕ) → take n (xored_words u v) ≡ xored_words (take n u) (take n v)
take-xored_words zero u v = refl
take-xored_words (suc n) [] v = refl
take-xored_words (suc n) (x ∷ u) [] = refl
take-xored_words (suc n) (x ∷ u) (y ∷ v) = ap (λ (l : List ℕ). bit_xor x y ∷ l) (take-xored_words n u v)

-- the rest of the xor
drop-xored_words : (n : ℕ) (u v : List ℕ) → n ≤ length u → n ≤ length v → drop n (xored_words u v) ≡ xored_words (drop n u) (drop n v)
drop-xored_words zero u v h g = refl
drop-xored_words (suc n) [] v h g = absurd (omega arith)
drop-xored_words (suc n) (x ∷ u) [] h g = absurd (omega arith)
drop-xored_words (suc n) (x ∷ u) (y ∷ v) h g = drop-xored_words n u v (omega arith) (omega arith)

-- of one block
block_in_standard_order-xored_words : (a b : List ℕ) → length a ≡ 16 → length b ≡ 16 → block_in_standard_order (xored_words a b) ≡ xored_words (block_in_standard_order a) (block_in_standard_order b)
block_in_standard_order-xored_words a b h g =
    let one = (λ (k : ℕ) (l : k < 16). get_or-zip2 bit_xor a b k 0 0 0 (omega (arith, l, h)) (omega (arith, l, g))) in
    rw (one 0 (lit< tt), one 13 (lit< tt), one 10 (lit< tt), one 7 (lit< tt), one 4 (lit< tt), one 1 (lit< tt), one 14 (lit< tt), one 11 (lit< tt), one 8 (lit< tt), one 5 (lit< tt), one 2 (lit< tt), one 15 (lit< tt), one 12 (lit< tt), one 9 (lit< tt), one 6 (lit< tt), one 3 (lit< tt)) refl

-- of the first blocks
blocks_in_standard_order-xored_words : (n : ℕ) (u v : List ℕ) → 16 * n ≤ length u → 16 * n ≤ length v
    → blocks_in_standard_order n (xored_words u v) ≡ xored_words (blocks_in_standard_order n u) (blocks_in_standard_order n v)
unfolding blocks_in_standard_order
blocks_in_standard_order-xored_words zero u v h g = refl
blocks_in_standard_order-xored_words (suc n) u v h g =
    let front = block_in_standard_order-xored_words (take 16 u) (take 16 v) (length-take-le 16 u (omega arith)) (length-take-le 16 v (omega arith)) in
    let rest = blocks_in_standard_order-xored_words n (drop 16 u) (drop 16 v) (omega (arith, length-drop 16 u)) (omega (arith, length-drop 16 v)) in
    ap (λ (l : List ℕ). l ++ blocks_in_standard_order n (drop 16 (xored_words u v))) (ap block_in_standard_order (take-xored_words 16 u v) ∙ front)
    ∙ ap (λ (l : List ℕ). xored_words (block_in_standard_order (take 16 u)) (block_in_standard_order (take 16 v)) ++ l)
    (ap (blocks_in_standard_order n) (drop-xored_words 16 u v (omega arith) (omega arith)) ∙ rest)

-- of whole rows
pub row_in_standard_order-xored_words : (u v : List ℕ) → length v ≡ length u → row_in_standard_order (xored_words u v) ≡ xored_words (row_in_standard_order u) (row_in_standard_order v)
row_in_standard_order-xored_words u v e =
    let n : ℕ = length u / 16 in
    ap (λ (k : ℕ). blocks_in_standard_order (k / 16) (xored_words u v)) (length-zip2 bit_xor u v (sym e))
    ∙ blocks_in_standard_order-xored_words n u v (omega arith) (omega arith)
    ∙ ap (λ (k : ℕ). xored_words (row_in_standard_order u) (blocks_in_standard_order (k / 16) v)) (sym e)

-- ---- the two lowest_words words of the last block

-- a word of a row, by its block and its place there
word_at : (w : List ℕ) (i j : ℕ) → j < 16 → slice_index w (16 * i + j) ≡ slice_index (block_at w i) j
word_at w i j h = sym (get_or-chunk (16 * i) 16 w j 0 h)

-- they stand at the places 0 and 13 of the last block by diagonals
pub lowest_words : (w : List ℕ) → 16 ≤ length w → length w % 16 ≡ 0
    → (slice_index (row_in_standard_order w) (length (row_in_standard_order w) - 16) ≡ slice_index w (length w - 16))
    × (slice_index (row_in_standard_order w) (length (row_in_standard_order w) - 16 + 1) ≡ slice_index w (length w - 16 + 13))
lowest_words w h whole =
    let n : ℕ = length w / 16 in
    let i : ℕ = n - 1 in
    let long = length-blocks_in_standard_order n w in
    let e0 : length (row_in_standard_order w) - 16 ≡ 16 * i + 0 = omega (arith, long) in
    let e1 : length (row_in_standard_order w) - 16 + 1 ≡ 16 * i + 1 = omega (arith, long) in
    let f0 : length w - 16 ≡ 16 * i + 0 = omega arith in
    let f1 : length w - 16 + 13 ≡ 16 * i + 13 = omega arith in
    let same = block_at-blocks_in_standard_order n w i (omega arith) in (
      ap (slice_index (row_in_standard_order w)) e0 ∙ word_at (row_in_standard_order w) i 0 (lit< tt) ∙ ap (λ (l : List ℕ). slice_index l 0) same
          ∙ sym (word_at w i 0 (lit< tt)) ∙ ap (slice_index w) (sym f0),
      ap (slice_index (row_in_standard_order w)) e1 ∙ word_at (row_in_standard_order w) i 1 (lit< tt) ∙ ap (λ (l : List ℕ). slice_index l 1) same
          ∙ sym (word_at w i 13 (lit< tt)) ∙ ap (slice_index w) (sym f1),
    )

-- ---- one more block

-- of nothing
take-nil : (n : ℕ) → take {A = ℕ} n [] ≡ []
take-nil zero = refl
take-nil (suc n) = refl

-- a block goes on from the blocks before it
pub take-block_at : (w : List ℕ) (i : ℕ) → 16 * i ≤ length w → take (16 * i) w ++ block_at w i ≡ take (16 * (i + 1)) w
take-block_at w i h =
    let e : 16 * (i + 1) ≡ 16 * i + 16 = omega arith in rw e (take-take-drop (16 * i) 16 w)
  where
    take-take-drop : (m n : ℕ) (w : List ℕ) → take m w ++ take n (drop m w) ≡ take (m + n) w
    take-take-drop zero n w = let e : 0 + n ≡ n = omega arith in rw e refl
    take-take-drop (suc m) n [] = let e : suc m + n ≡ suc (m + n) = omega arith in rw e (take-nil n)
    take-take-drop (suc m) n (x ∷ w) = let e : suc m + n ≡ suc (m + n) = omega arith in rw e (ap (λ (l : List ℕ). x ∷ l) (take-take-drop m n w))

-- one more block of a row in its own order
pub blocks_in_standard_order-more : (n : ℕ) (w : List ℕ) → blocks_in_standard_order (n + 1) w ≡ blocks_in_standard_order n w ++ block_in_standard_order (block_at w n)
unfolding blocks_in_standard_order
blocks_in_standard_order-more zero w = refl
blocks_in_standard_order-more (suc n) w =
    let e : suc n + 1 ≡ suc (n + 1) = omega arith in
    let f : 16 * suc n ≡ 16 + 16 * n = omega arith in
    rw (e, f, blocks_in_standard_order-more n (drop 16 w), drop-drop (16 * n) 16 w) refl
