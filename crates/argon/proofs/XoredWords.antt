-- Blocks xored four words at a time.
use Rattle.std.proofs.Common.{◌≡◌, ℕ, zero, suc, ◌+◌, ◌*◌, ◌<◌, ◌≤◌, List, [], ◌∷◌, ◌++◌, length, take, drop, slice_index, bit_xor, refl, sym, ap, ◌∙◌, arith}
use Rattle.std.specs.Simd.Lanes.{chunk, put_chunk, zip2}
use Rattle.std.proofs.lemmas.List.{take_all, drop-drop}
use Rattle.std.proofs.lemmas.Simd.{length-chunk, length-zip2, take_more_put_chunk}
use Rattle.four_words.specs.Words.{xored_words}
use Rattle.four_words.proofs.Runs.{drop_put}

-- n more words xored
pub xor_more : (x y : List ℕ) (a n k : ℕ) → k ≡ a + n → k ≤ length x → k ≤ length y
    → xored_words (take a x) (take a y) ++ zip2 bit_xor (chunk a n x) (chunk a n y) ≡ xored_words (take k x) (take k y)
xor_more x y zero n k e h g = let f : k ≡ n = omega arith in rw f (same (take n x) (take n y))
  where
    same : (x y : List ℕ) → zip2 bit_xor x y ≡ xored_words x y
    same [] y = refl
    same (a ∷ x) [] = refl
    same (a ∷ x) (b ∷ y) = ap (λ (l : List ℕ). bit_xor a b ∷ l) (same x y)
xor_more x y (suc a) n zero e h g = absurd (omega arith)
xor_more [] y (suc a) n (suc k) e h g = absurd (omega arith)
xor_more (u ∷ x) [] (suc a) n (suc k) e h g = absurd (omega arith)
xor_more (u ∷ x) (w ∷ y) (suc a) n (suc k) e h g =
    ap (λ (l : List ℕ). bit_xor u w ∷ l) (xor_more x y a n k (omega arith) (omega arith) (omega arith))

pub length-xored_words : (x y : List ℕ) (n : ℕ) → length x ≡ n → length y ≡ n → length (xored_words x y) ≡ n
length-xored_words [] y n h g = h
length-xored_words (a ∷ x) [] n h g = absurd (omega arith)
length-xored_words (a ∷ x) (b ∷ y) zero h g = absurd (omega arith)
length-xored_words (a ∷ x) (b ∷ y) (suc n) h g = ap suc (length-xored_words x y n (omega arith) (omega arith))

-- four words of the xor
chunk_xored : (x y : List ℕ) (a n : ℕ) → a + n ≤ length x → a + n ≤ length y
    → zip2 bit_xor (chunk a n x) (chunk a n y) ≡ chunk a n (xored_words x y)
chunk_xored x y zero zero h g = refl
chunk_xored [] y zero (suc n) h g = absurd (omega arith)
chunk_xored (u ∷ x) [] zero (suc n) h g = absurd (omega arith)
chunk_xored (u ∷ x) (w ∷ y) zero (suc n) h g = ap (λ (l : List ℕ). bit_xor u w ∷ l) (chunk_xored x y zero n (omega arith) (omega arith))
chunk_xored [] y (suc a) n h g = absurd (omega arith)
chunk_xored (u ∷ x) [] (suc a) n h g = absurd (omega arith)
chunk_xored (u ∷ x) (w ∷ y) (suc a) n h g = chunk_xored x y a n (omega arith) (omega arith)

four_long : (x y : List ℕ) (a : ℕ) → a + 4 ≤ length x → a + 4 ≤ length y → length (zip2 bit_xor (chunk a 4 x) (chunk a 4 y)) ≡ 4
four_long x y a h g =
    let one = length-chunk a 4 x h in
    let two = length-chunk a 4 y g in
    length-zip2 bit_xor (chunk a 4 x) (chunk a 4 y) (one ∙ sym two) ∙ one

pub write_more : (x y out : List ℕ) (i : ℕ) → length x ≡ 128 → length y ≡ 128 → length out ≡ 128 → i < 32
    → take (4 * i) out ≡ xored_words (take (4 * i) x) (take (4 * i) y)
    → take (4 * (i + 1)) (put_chunk (4 * i) out (zip2 bit_xor (chunk (4 * i) 4 x) (chunk (4 * i) 4 y)))
    ≡ xored_words (take (4 * (i + 1)) x) (take (4 * (i + 1)) y)
write_more x y out i hx hy ho low done =
    let w = zip2 bit_xor (chunk (4 * i) 4 x) (chunk (4 * i) 4 y) in
    let long = four_long x y (4 * i) (omega arith) (omega arith) in
    take_more_put_chunk (4 * i) out w (4 * (i + 1)) (omega (arith, long)) (omega arith)
    ∙ rw done (xor_more x y (4 * i) 4 (4 * (i + 1)) (omega arith) (omega arith) (omega arith))

pub all_xored : (x y out : List ℕ) → length x ≡ 128 → length y ≡ 128 → length out ≡ 128
    → take 128 out ≡ xored_words (take 128 x) (take 128 y) → out ≡ xored_words x y
all_xored x y out hx hy ho e =
    sym (take_all 128 out (omega arith)) ∙ e
    ∙ rw (take_all 128 x (omega arith), take_all 128 y (omega arith)) refl

drop_more_four : (v u : List ℕ) (a b : ℕ) → b ≡ a + 4 → drop a v ≡ drop a u → drop b v ≡ drop b u
drop_more_four v u a b e h = rw (e, ← drop-drop 4 a v, ← drop-drop 4 a u, h) refl

pub over_left : (x y old out : List ℕ) (i : ℕ) → length x ≡ 128 → length y ≡ 128 → length out ≡ 128 → i < 32
    → drop (4 * i) out ≡ drop (4 * i) old
    → drop (4 * (i + 1)) (put_chunk (4 * i) out (zip2 bit_xor (zip2 bit_xor (chunk (4 * i) 4 x) (chunk (4 * i) 4 y)) (chunk (4 * i) 4 out)))
    ≡ drop (4 * (i + 1)) old
over_left x y old out i hx hy ho low left =
    let two = zip2 bit_xor (chunk (4 * i) 4 x) (chunk (4 * i) 4 y) in
    let one = four_long x y (4 * i) (omega arith) (omega arith) in
    let long : length (zip2 bit_xor two (chunk (4 * i) 4 out)) ≡ 4 =
    length-zip2 bit_xor two (chunk (4 * i) 4 out) (one ∙ sym (length-chunk (4 * i) 4 out (omega arith))) ∙ one in
    drop_put out (zip2 bit_xor two (chunk (4 * i) 4 out)) (4 * i) (4 * (i + 1)) (omega (arith, long))
    ∙ drop_more_four out old (4 * i) (4 * (i + 1)) (omega arith) left

pub over_more : (x y old out : List ℕ) (i : ℕ) → length x ≡ 128 → length y ≡ 128 → length old ≡ 128 → length out ≡ 128 → i < 32
    → take (4 * i) out ≡ xored_words (take (4 * i) (xored_words x y)) (take (4 * i) old)
    → drop (4 * i) out ≡ drop (4 * i) old
    → take (4 * (i + 1)) (put_chunk (4 * i) out (zip2 bit_xor (zip2 bit_xor (chunk (4 * i) 4 x) (chunk (4 * i) 4 y)) (chunk (4 * i) 4 out)))
    ≡ xored_words (take (4 * (i + 1)) (xored_words x y)) (take (4 * (i + 1)) old)
over_more x y old out i hx hy hl ho low done left =
    rw (chunk_xored x y (4 * i) 4 (omega arith) (omega arith), ap (take 4) left)
    (write_more (xored_words x y) old out i (length-xored_words x y 128 hx hy) hl ho low done)

-- one more word xored
pub xored_words_more : (xs ys : List ℕ) (k : ℕ) → k < length xs → k < length ys
    → xored_words (take k xs) (take k ys) ++ bit_xor (slice_index xs k) (slice_index ys k) ∷ [] ≡ xored_words (take (k + 1) xs) (take (k + 1) ys)
xored_words_more [] ys k h g = absurd (omega arith)
xored_words_more (x ∷ xs) [] k h g = absurd (omega arith)
xored_words_more (x ∷ xs) (y ∷ ys) zero h g = refl
xored_words_more (x ∷ xs) (y ∷ ys) (suc k) h g =
    let e : suc k + 1 ≡ suc (k + 1) = omega arith in
    rw (e, ← xored_words_more xs ys k (omega arith) (omega arith)) refl
