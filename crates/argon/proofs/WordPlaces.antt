-- Words read and written along places: runs, rows, columns, and places that are apart.
use Rattle.std.proofs.Common.{◌≡◌, ℕ, zero, suc, ◌+◌, ◌/◌, ◌%◌, ◌<◌, ◌≤◌, List, [], ◌∷◌, ◌++◌, length, set, slice_index, refl, sym, ap, ◌∙◌, arith, length-set}
use Rattle.std.specs.List.{range_with_len}
use Rattle.std.specs.Simd.Lanes.{chunk, put_chunk}
use Rattle.std.proofs.lemmas.List.{get_or-set_other, drop_more}
use Rattle.blake.specs.Words.{words_at, with_words_at}
use Rattle.argon.specs.Compression.{column_places, permutation, row_places}
use Rattle.four_words.specs.Inside.FourWords.{four_words}
use Rattle.four_words.proofs.FourWords.{each_of_four}
use Rattle.argon.specs.Inside.FourWords.{pair_places}

-- ---- runs of places

pub run_read : (v : List ℕ) (a n : ℕ) → a + n ≤ length v → words_at v (range_with_len a n) ≡ chunk a n v
run_read v a zero h = refl
run_read v a (suc n) h =
    rw (drop_more v a 0 (omega arith), run_read v (a + 1) n (omega arith)) refl

-- a word before a run
put_front : (v ws : List ℕ) (a b w : ℕ) → b ≡ a + 1 → b + length ws ≤ length v → put_chunk b (set v a w) ws ≡ put_chunk a v (w ∷ ws)
put_front [] ws a b w e h = refl
put_front (x ∷ v) ws zero zero w e h = absurd (omega arith)
put_front (x ∷ v) ws zero (suc b) w e h = let none : b ≡ 0 = omega arith in rw none refl
put_front (x ∷ v) ws (suc a) zero w e h = absurd (omega arith)
put_front (x ∷ v) ws (suc a) (suc b) w e h = ap (λ (l : List ℕ). x ∷ l) (put_front v ws a b w (omega arith) (omega arith))

pub run_stored : (v ws : List ℕ) (a n : ℕ) → length ws ≡ n → a + n ≤ length v
    → with_words_at v (range_with_len a n) ws ≡ put_chunk a v ws
run_stored v [] a zero e h = sym (put_none v a)
  where
    put_none : (v : List ℕ) (a : ℕ) → put_chunk a v [] ≡ v
    put_none [] a = refl
    put_none (x ∷ v) zero = refl
    put_none (x ∷ v) (suc a) = ap (λ (l : List ℕ). x ∷ l) (put_none v a)
run_stored v (w ∷ ws) a zero e h = absurd (omega arith)
run_stored v [] a (suc n) e h = absurd (omega arith)
run_stored v (w ∷ ws) a (suc n) e h =
    run_stored (set v a w) ws (a + 1) n (omega arith) (omega (arith, length-set {A = ℕ} v a w)) ∙ put_front v ws a (a + 1) w refl (omega arith)

-- ---- the places of a column

pub pairs_stored : (v : List ℕ) (at : ℕ) (x y z w : ℕ) → at + 18 ≤ length v
    → put_chunk (at + 16) (put_chunk at v (x ∷ y ∷ [])) (z ∷ w ∷ []) ≡ with_words_at v (pair_places at) (x ∷ y ∷ z ∷ w ∷ [])
pairs_stored v at x y z w h =
    let next : at + 16 + 1 ≡ at + 17 = omega arith in
    let one = run_stored v (x ∷ y ∷ []) at 2 refl (omega arith) in
    let two = run_stored (set (set v at x) (at + 1) y) (z ∷ w ∷ []) (at + 16) 2 refl
    (omega (arith, length-set (set v at x) (at + 1) y, length-set v at x)) in
    rw (← one, ← two, next) refl

pub pairs_stored_of_vector : (v new : List ℕ) (at : ℕ) → length new ≡ 4 → at + 18 ≤ length v
    → put_chunk (at + 16) (put_chunk at v (slice_index (new ++ new) 0 ∷ slice_index (new ++ new) 1 ∷ []))
    (slice_index (new ++ new) 2 ∷ slice_index (new ++ new) 3 ∷ [])
    ≡ with_words_at v (pair_places at) (four_words new)
pairs_stored_of_vector v new at e h =
    each_of_four (λ new. put_chunk (at + 16) (put_chunk at v (slice_index (new ++ new) 0 ∷ slice_index (new ++ new) 1 ∷ []))
    (slice_index (new ++ new) 2 ∷ slice_index (new ++ new) 3 ∷ [])
    ≡ with_words_at v (pair_places at) (four_words new)) (λ x y z w. pairs_stored v at x y z w h) new e

-- ---- places that are apart, told by a number that places have in common

abbrev pub Keyed : (ℕ → ℕ) → ℕ → List ℕ → Type 0
Keyed f i [] = Unit {0}
Keyed f i (p ∷ ps) = (f p ≡ i) × Keyed f i ps

kept : (f : ℕ → ℕ) (i : ℕ) (v ps ws : List ℕ) (q : ℕ) → Keyed f i ps → (f q ≡ i → ⊥)
    → slice_index (with_words_at v ps ws) q ≡ slice_index v q
kept f i v [] ws q all other = refl
kept f i v (p ∷ ps) [] q all other = refl
kept f i v (p ∷ ps) (w ∷ ws) q all other =
    kept f i (set v p w) ps ws q all.1 other
    ∙ get_or-set_other v p q w 0 (λ e. other (ap f e ∙ all.0))

pub apart : (f : ℕ → ℕ) (i j : ℕ) (v ps ws qs : List ℕ) → Keyed f i ps → Keyed f j qs → (j ≡ i → ⊥)
    → words_at (with_words_at v ps ws) qs ≡ words_at v qs
apart f i j v ps ws [] all of other = refl
apart f i j v ps ws (q ∷ qs) all of other =
    rw (kept f i v ps ws q all (λ e. other (sym of.0 ∙ e)), apart f i j v ps ws qs all of.1 other) refl

-- the places of a row, told by their sixteenth, and those of a column, told by their half modulo 8
pub row_keyed : (i : ℕ) → Keyed (λ p. p / 16) i (row_places i)
row_keyed i =
    (omega arith, (omega arith, (omega arith, (omega arith, (omega arith, (omega arith, (omega arith, (omega arith, (omega arith, (omega arith, (omega arith, (omega arith, (omega arith, (omega arith, (omega arith, (omega arith, tt))))))))))))))))

pub column_keyed : (i : ℕ) → i < 8 → Keyed (λ p. p / 2 % 8) i (column_places i)
column_keyed i h =
    (omega arith, (omega arith, (omega arith, (omega arith, (omega arith, (omega arith, (omega arith, (omega arith, (omega arith, (omega arith, (omega arith, (omega arith, (omega arith, (omega arith, (omega arith, (omega arith, tt))))))))))))))))

-- the words of another column than the one that is written
pub column_kept : (v w new : List ℕ) (i j : ℕ) → i < 8 → j < 8 → (j ≡ i → ⊥) → w ≡ with_words_at v (column_places i) new
    → words_at w (column_places j) ≡ words_at v (column_places j)
column_kept v w new i j hi hj other e =
    ap (λ (u : List ℕ). words_at u (column_places j)) e
    ∙ apart (λ p. p / 2 % 8) i j v (column_places i) new (column_places j) (column_keyed i hi) (column_keyed j hj) other

-- what is read at places of v, permuted, and written at the same places of w
pub placed : (v w u s p places : List ℕ) → s ≡ words_at v places → p ≡ permutation s → u ≡ with_words_at w places p
    → u ≡ with_words_at w places (permutation (words_at v places))
placed v w u s p places hs hp hu = rw (hu, hp, hs) refl
