-- Rows of blocks, xored and left block by block.
use Rattle.std.proofs.Common.{◌≡◌, ℕ, zero, suc, ◌+◌, ◌*◌, ◌≤◌, List, [], ◌∷◌, ◌++◌, length, take, drop, bit_xor, refl, ap, ◌∙◌, arith}
use Rattle.std.specs.Simd.Lanes.{chunk}
use Rattle.std.proofs.lemmas.List.{drop-drop}
use Rattle.four_words.specs.Words.{xored_words}
use Rattle.romix.specs.BlockMix.{block_at}

-- n more words xored
xor_more : (x y : List ℕ) (a n k : ℕ) → k ≡ a + n → k ≤ length x → k ≤ length y
    → xored_words (take a x) (take a y) ++ xored_words (chunk a n x) (chunk a n y) ≡ xored_words (take k x) (take k y)
xor_more x y zero n k e h g = let f : k ≡ n = omega arith in rw f refl
xor_more x y (suc a) n zero e h g = absurd (omega arith)
xor_more [] y (suc a) n (suc k) e h g = absurd (omega arith)
xor_more (u ∷ x) [] (suc a) n (suc k) e h g = absurd (omega arith)
xor_more (u ∷ x) (w ∷ y) (suc a) n (suc k) e h g =
    ap (λ (l : List ℕ). bit_xor u w ∷ l) (xor_more x y a n k (omega arith) (omega arith) (omega arith))

-- one more block of a row is xored, where those before are and the rest is as it was
pub block_xored : (old other row new z : List ℕ) (i : ℕ) → 16 * (i + 1) ≤ length old → 16 * (i + 1) ≤ length other
    → take (16 * i) row ≡ xored_words (take (16 * i) old) (take (16 * i) other)
    → drop (16 * i) row ≡ drop (16 * i) old
    → z ≡ xored_words (block_at row i) (block_at other i)
    → take (16 * (i + 1)) new ≡ take (16 * i) row ++ z
    → take (16 * (i + 1)) new ≡ xored_words (take (16 * (i + 1)) old) (take (16 * (i + 1)) other)
block_xored old other row new z i h g done left hz hn =
    hn ∙ rw (hz, done, left) (xor_more old other (16 * i) 16 (16 * (i + 1)) (omega arith) h g)

-- the blocks after a written one are as they were
pub block_left : (old row new : List ℕ) (i : ℕ) → drop (16 * i) row ≡ drop (16 * i) old
    → drop (16 * (i + 1)) new ≡ drop (16 * (i + 1)) row → drop (16 * (i + 1)) new ≡ drop (16 * (i + 1)) old
block_left old row new i left hn =
    let e : 16 * (i + 1) ≡ 16 * i + 16 = omega arith in
    hn ∙ rw (e, ← drop-drop 16 (16 * i) row, ← drop-drop 16 (16 * i) old, left) refl

-- the xor of lists that equal two others
pub same_xored : {x y z u v : List ℕ} → x ≡ u → y ≡ v → z ≡ xored_words x y → z ≡ xored_words u v
same_xored hx hy hz = rw (← hx, ← hy) hz
