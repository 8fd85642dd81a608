-- The rows of a block permuted into another block.
use Rattle.std.proofs.Common.{◌≡◌, ℕ, zero, suc, ◌+◌, ◌*◌, ◌/◌, ◌≤◌, List, [], ◌∷◌, ◌++◌, length, take, set, get_or, refl, sym, ap, ◌∙◌, arith, length-set}
use Rattle.std.proofs.lemmas.List.{take_all}
use Rattle.std.proofs.lemmas.Simd.{take_more_put_chunk}
use Rattle.blake.specs.Words.{words_at, with_words_at}
use Rattle.blake.specs.Blake2b.{mixing_places}
use Rattle.argon.specs.Compression.{block_after_columns, block_after_rows, mixed_words, permutation, row_places, words_after_gb_steps}
use Rattle.argon.specs.Inside.FourWords.{with_four_columns_permuted, with_four_rows_permuted, with_row_permuted}
use Rattle.argon.proofs.WordPlaces.{apart, row_keyed, run_stored}

-- w with the first k rows of v, permuted
unfoldable pub rows_into : List ℕ → List ℕ → ℕ → List ℕ
rows_into v w zero = w
rows_into v w (suc k) = with_row_permuted v (rows_into v w k) k

pub length-with_words_at : (v ps ws : List ℕ) → length (with_words_at v ps ws) ≡ length v
length-with_words_at v [] ws = refl
length-with_words_at v (p ∷ ps) [] = refl
length-with_words_at v (p ∷ ps) (w ∷ ws) = length-with_words_at (set v p w) ps ws ∙ length-set v p w

length-mixings : (v : List ℕ) (k : ℕ) → length (words_after_gb_steps v k) ≡ length v
unfolding words_after_gb_steps
length-mixings v zero = refl
length-mixings v (suc k) =
    length-with_words_at (words_after_gb_steps v k) (get_or mixing_places k []) (mixed_words (words_at (words_after_gb_steps v k) (get_or mixing_places k []))) ∙ length-mixings v k

length-rows_into : (v w : List ℕ) (k : ℕ) → length (rows_into v w k) ≡ length w
unfolding rows_into
length-rows_into v w zero = refl
length-rows_into v w (suc k) =
    length-with_words_at (rows_into v w k) (row_places k) (permutation (words_at v (row_places k))) ∙ length-rows_into v w k

-- the rows to come are as they were
later_rows : (v w : List ℕ) (k j : ℕ) → k ≤ j → words_at (rows_into v w k) (row_places j) ≡ words_at w (row_places j)
unfolding rows_into
later_rows v w zero j h = refl
later_rows v w (suc k) j h =
    apart (λ p. p / 16) k j (rows_into v w k) (row_places k) (permutation (words_at v (row_places k))) (row_places j)
    (row_keyed k) (row_keyed j) (λ e. absurd (omega arith))
    ∙ later_rows v w k j (omega arith)

in_place : (v : List ℕ) (k : ℕ) → block_after_rows v k ≡ rows_into v v k
unfolding block_after_rows rows_into
in_place v zero = refl
in_place v (suc k) = rw (in_place v k, later_rows v v k k (omega arith)) refl

-- what stood in the rows that are written does not matter
front_is : (v w : List ℕ) (k : ℕ) → 16 * (k + 1) ≤ length w
    → take (16 * (k + 1)) (rows_into v w (suc k)) ≡ take (16 * k) (rows_into v w k) ++ permutation (words_at v (row_places k))
unfolding rows_into
front_is v w k h =
    let long : length (permutation (words_at v (row_places k))) ≡ 16 = length-mixings (words_at v (row_places k)) 8 in
    let wide = length-rows_into v w k in
    ap (take (16 * (k + 1))) (run_stored (rows_into v w k) (permutation (words_at v (row_places k))) (16 * k) 16 long (omega arith))
    ∙ take_more_put_chunk (16 * k) (rows_into v w k) (permutation (words_at v (row_places k))) (16 * (k + 1)) (omega arith) (omega arith)

fronts_agree : (v w u : List ℕ) (k : ℕ) → 16 * k ≤ length w → 16 * k ≤ length u
    → take (16 * k) (rows_into v w k) ≡ take (16 * k) (rows_into v u k)
fronts_agree v w u zero h g = refl
fronts_agree v w u (suc k) h g =
    let e : suc k ≡ k + 1 = omega arith in
    let f = fronts_agree v w u k (omega arith) (omega arith) in
    let one = front_is v w k (omega arith) in
    let two = front_is v u k (omega arith) in
    ap (λ (n : ℕ). take (16 * n) (rows_into v w (suc k))) e
    ∙ one ∙ ap (λ (l : List ℕ). l ++ permutation (words_at v (row_places k))) f ∙ sym two
    ∙ ap (λ (n : ℕ). take (16 * n) (rows_into v u (suc k))) (sym e)

pub all_rows : (v w : List ℕ) → length v ≡ 128 → length w ≡ 128 → rows_into v w 8 ≡ block_after_rows v 8
all_rows v w h g =
    sym (take_all 128 (rows_into v w 8) (omega (arith, length-rows_into v w 8)))
    ∙ fronts_agree v w v 8 (omega arith) (omega arith)
    ∙ take_all 128 (rows_into v v 8) (omega (arith, length-rows_into v v 8))
    ∙ sym (in_place v 8)

-- four more rows, four more columns
pub rows_more : (v w : List ℕ) (i : ℕ) → with_four_rows_permuted v (rows_into v w (4 * i)) (4 * i) ≡ rows_into v w (4 * (i + 1))
unfolding rows_into
rows_more v w i =
    let e : 4 * (i + 1) ≡ suc (suc (suc (suc (4 * i)))) = omega arith in
    let f : 4 * i + 1 ≡ suc (4 * i) = omega arith in
    let g : 4 * i + 2 ≡ suc (suc (4 * i)) = omega arith in
    let h : 4 * i + 3 ≡ suc (suc (suc (4 * i))) = omega arith in
    rw (e, f, g, h) (refl {a = rows_into v w (suc (suc (suc (suc (4 * i)))))})

pub columns_more : (v : List ℕ) (i : ℕ) → with_four_columns_permuted (block_after_columns v (4 * i)) (4 * i) ≡ block_after_columns v (4 * (i + 1))
unfolding block_after_columns
columns_more v i =
    let e : 4 * (i + 1) ≡ suc (suc (suc (suc (4 * i)))) = omega arith in
    let f : 4 * i + 1 ≡ suc (4 * i) = omega arith in
    let g : 4 * i + 2 ≡ suc (suc (4 * i)) = omega arith in
    let h : 4 * i + 3 ≡ suc (suc (suc (4 * i))) = omega arith in
    rw (e, f, g, h) (refl {a = block_after_columns v (suc (suc (suc (suc (4 * i)))))})
