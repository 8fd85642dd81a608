-- Runs of words read and written vector by vector.
use Rattle.std.proofs.Common.{◌≡◌, ℕ, zero, suc, ◌+◌, ◌≤◌, List, [], ◌∷◌, ◌++◌, length, drop, slice_index, refl, ap, ◌∙◌, arith}
use Rattle.std.specs.Simd.Lanes.{chunk, put_chunk}
use Rattle.std.proofs.lemmas.List.{drop_more}
use Rattle.std.proofs.lemmas.Simd.{length-chunk}
use Rattle.four_words.specs.Inside.FourWords.{four_words, sixteen_words}
use Rattle.four_words.proofs.FourWords.{sixteen_are}

-- one run read after another
chunk_more : (v : List ℕ) (a m n b k : ℕ) → b ≡ a + m → k ≡ m + n → b ≤ length v → chunk a m v ++ chunk b n v ≡ chunk a k v
chunk_more v a zero n b k e f h = let g : b ≡ a = omega arith in let i : k ≡ n = omega arith in rw (g, i) refl
chunk_more v a (suc m) n b zero e f h = absurd (omega arith)
chunk_more v a (suc m) n b (suc k) e f h =
    rw (drop_more v a 0 (omega arith)) (ap (λ (l : List ℕ). slice_index v a ∷ l) (chunk_more v (a + 1) m n b k (omega arith) (omega arith) h))

-- sixteen words read by fours
pub sixteen_read : (v : List ℕ) (a : ℕ) → a + 16 ≤ length v
    → sixteen_words (chunk a 4 v) (chunk (a + 4) 4 v) (chunk (a + 8) 4 v) (chunk (a + 12) 4 v) ≡ chunk a 16 v
sixteen_read v a h =
    sixteen_are _ _ _ _ (length-chunk a 4 v (omega arith)) (length-chunk (a + 4) 4 v (omega arith))
    (length-chunk (a + 8) 4 v (omega arith)) (length-chunk (a + 12) 4 v (omega arith))
    ∙ rw (
      chunk_more v (a + 8) 4 4 (a + 12) 8 (omega arith) refl (omega arith),
      chunk_more v (a + 4) 4 8 (a + 8) 12 (omega arith) refl (omega arith),
      chunk_more v a 4 12 (a + 4) 16 refl refl (omega arith),
    ) refl

-- one run written after another
put_joined : (v xs ys : List ℕ) (a b : ℕ) → b ≡ a + length xs → b + length ys ≤ length v
    → put_chunk b (put_chunk a v xs) ys ≡ put_chunk a v (xs ++ ys)
put_joined [] xs ys a b e h = refl
put_joined (x ∷ v) [] ys zero zero e h = refl
put_joined (x ∷ v) [] ys zero (suc b) e h = absurd (omega arith)
put_joined (x ∷ v) (y ∷ xs) ys zero zero e h = absurd (omega arith)
put_joined (x ∷ v) (y ∷ xs) ys zero (suc b) e h = ap (λ (l : List ℕ). y ∷ l) (put_joined v xs ys zero b (omega arith) (omega arith))
put_joined (x ∷ v) xs ys (suc a) zero e h = absurd (omega arith)
put_joined (x ∷ v) xs ys (suc a) (suc b) e h = ap (λ (l : List ℕ). x ∷ l) (put_joined v xs ys a b (omega arith) (omega arith))

-- sixteen words written by fours
pub sixteen_written : (v a b c d : List ℕ) (at : ℕ) → at + 16 ≤ length v
    → put_chunk (at + 12) (put_chunk (at + 8) (put_chunk (at + 4) (put_chunk at v (four_words a)) (four_words b)) (four_words c)) (four_words d)
    ≡ put_chunk at v (sixteen_words a b c d)
sixteen_written v a b c d at h =
    rw (
      put_joined v (four_words a) (four_words b) at (at + 4) refl (omega arith),
      put_joined v (four_words a ++ four_words b) (four_words c) at (at + 8) refl (omega arith),
      put_joined v ((four_words a ++ four_words b) ++ four_words c) (four_words d) at (at + 12) refl (omega arith),
    ) refl

-- the words after a write stay
pub drop_put : (v ws : List ℕ) (a b : ℕ) → a + length ws ≤ b → drop b (put_chunk a v ws) ≡ drop b v
drop_put [] ws a b h = refl
drop_put (x ∷ v) [] zero b h = refl
drop_put (x ∷ v) (w ∷ ws) zero zero h = absurd (omega arith)
drop_put (x ∷ v) (w ∷ ws) zero (suc b) h = drop_put v ws zero b (omega arith)
drop_put (x ∷ v) ws (suc a) zero h = absurd (omega arith)
drop_put (x ∷ v) ws (suc a) (suc b) h = drop_put v ws a b (omega arith)
