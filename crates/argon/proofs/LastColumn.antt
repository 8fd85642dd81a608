-- The last column, and its xor.
use Rattle.std.proofs.Common.{◌≡◌, ℕ, zero, suc, ◌+◌, ◌-◌, ◌*◌, ◌%◌, ◌<◌, ◌≤◌, List, [], ◌∷◌, ◌++◌, length, get_or, map, refl, sym, ap, ◌∙◌, arith}
use Rattle.std.specs.Prelude.{fold}
use Rattle.std.specs.List.{range_with_len}
use Rattle.std.proofs.Math.Seq.{get_or-append_seam}
use Rattle.std.proofs.Math.Nat.{mul-le-mul_right, mul-add-mod_self_right, mod-eq_of_lt}
use Rattle.argon.specs.Argon2.{block_of, matrix_columns, matrix_block, next_block, tag_by_first_hash, xor_of_column_blocks}
use Rattle.argon.specs.Buffer.{HoldsNewestBlocks, column_number_after_slices}
use Rattle.four_words.specs.Words.{xored_words}
use Rattle.argon.specs.Parameters.{Parameters, lane_len, segment_len}
use Rattle.blake.specs.Words.{bytes_of_words}
use Rattle.blake.specs.LongHash.{long_hash}
use Rattle.argon.proofs.MatrixBlocks.{length-matrix_columns, columns_made_last, block_of-matrix_columns}
use Rattle.argon.proofs.Progress.{next_later}

fold_more : (f : ℕ → List ℕ) (z : List ℕ) (a n : ℕ)
    → fold xored_words z (map f (range_with_len a (suc n))) ≡ xored_words (fold xored_words z (map f (range_with_len a n))) (f (a + n))
fold_more f z a zero = let e : a + 0 ≡ a = omega arith in rw e refl
fold_more f z a (suc n) =
    let e : a + 1 + n ≡ a + suc n = omega arith in
    fold_more f (xored_words z (f a)) (a + 1) n
    ∙ ap (λ (i : ℕ). xored_words (fold xored_words (xored_words z (f a)) (map f (range_with_len (a + 1) n))) (f i)) e

-- one more block xored in
pub xored_more : (f : ℕ → List ℕ) (k : ℕ) (last new : List ℕ) → last ≡ xor_of_column_blocks (map f (range_with_len 0 k)) → new ≡ xored_words last (f k)
    → new ≡ xor_of_column_blocks (map f (range_with_len 0 (k + 1)))
xored_more f k last new el en =
    let e : k + 1 ≡ suc k = omega arith in
    let z : 0 + k ≡ k = omega arith in
    en ∙ rw el (sym (ap (λ (n : ℕ). xor_of_column_blocks (map f (range_with_len 0 n))) e ∙ fold_more f _ 0 k
    ∙ ap (λ (i : ℕ). xored_words (xor_of_column_blocks (map f (range_with_len 0 k))) (f i)) z))

map_range_same : (f g : ℕ → List ℕ) (a n : ℕ) → ((i : ℕ) → i < a + n → f i ≡ g i) → map f (range_with_len a n) ≡ map g (range_with_len a n)
map_range_same f g a zero same = refl
map_range_same f g a (suc n) same =
    rw (same a (omega arith), map_range_same f g (a + 1) n (λ i lt. same i (omega arith))) refl

-- the last column, as a list of B's blocks
column_is : (c : Parameters) (h0 : List ℕ) (k n : ℕ) → n ≡ k + 2
    → get_or (matrix_columns c h0 (suc k)) n [] ≡ map (matrix_block c h0 n) (range_with_len 0 c.lanes)
unfolding matrix_columns
column_is c h0 k n en =
    let len : length (matrix_columns c h0 k) ≡ n = length-matrix_columns c h0 k ∙ sym en in
    let col : List (List ℕ) = map (next_block c (block_of (matrix_columns c h0 k)) (length (matrix_columns c h0 k))) (range_with_len 0 c.lanes) in
    let seam : get_or (matrix_columns c h0 k ++ col ∷ []) (length (matrix_columns c h0 k)) [] ≡ col = get_or-append_seam (matrix_columns c h0 k) col [] [] in
    ap (λ (i : ℕ). get_or (matrix_columns c h0 k ++ col ∷ []) i []) (sym len) ∙ seam
    ∙ map_range_same (next_block c (block_of (matrix_columns c h0 k)) (length (matrix_columns c h0 k))) (matrix_block c h0 n) 0 c.lanes (λ l lt.
    ap (λ (i : ℕ). next_block c (block_of (matrix_columns c h0 k)) i l) len
    ∙ sym (columns_made_last c h0 k n l len (omega arith)) ∙ block_of-matrix_columns c h0 (suc k) n l (omega arith))

-- what stands last in each lane is the last column
pub last_is : (c : Parameters) (h0 : List ℕ) (buf : List (List ℕ)) → 2 ≤ segment_len c → 1 ≤ c.passes
    → HoldsNewestBlocks c h0 buf (λ _. column_number_after_slices c (4 * c.passes))
    → map (λ l. get_or buf (l * lane_len c + (lane_len c - 1)) []) (range_with_len 0 c.lanes)
    ≡ get_or (matrix_columns c h0 (c.passes * lane_len c - 2)) (c.passes * lane_len c - 1) []
last_is c h0 buf hs hp newest =
    let n : ℕ = c.passes * lane_len c - 1 in
    let k : ℕ = c.passes * lane_len c - 3 in
    let whole : 1 * lane_len c ≤ c.passes * lane_len c = mul-le-mul_right (lane_len c) hp in
    let all : column_number_after_slices c (4 * c.passes) ≡ c.passes * lane_len c = next_later c (4 * c.passes) (omega arith) ∙ omega arith in
    let ek : c.passes * lane_len c - 2 ≡ suc k = omega arith in
    let en : n ≡ k + 2 = omega arith in
    let split : n ≡ (c.passes - 1) * lane_len c + (lane_len c - 1) =
    let e : c.passes ≡ c.passes - 1 + 1 = omega arith in
    let f : c.passes * lane_len c ≡ (c.passes - 1 + 1) * lane_len c = ap (λ (x : ℕ). x * lane_len c) e in omega arith in
    let at : n % lane_len c ≡ lane_len c - 1 =
    ap (λ (x : ℕ). x % lane_len c) split ∙ mul-add-mod_self_right (c.passes - 1) (lane_len c) (lane_len c - 1) ∙ mod-eq_of_lt (omega arith) in
    map_range_same (λ l. get_or buf (l * lane_len c + (lane_len c - 1)) []) (matrix_block c h0 n) 0 c.lanes (λ l lt.
    ap (λ (i : ℕ). get_or buf (l * lane_len c + i) []) (sym at) ∙ newest.holds l n (omega arith) (omega arith) (omega arith))
    ∙ sym (column_is c h0 k n en) ∙ ap (λ (j : ℕ). get_or (matrix_columns c h0 j) n []) (sym ek)

-- the tag, by what stands last in each lane
pub tag_is : (c : Parameters) (h0 : List ℕ) (buf : List (List ℕ)) (lanes len n : ℕ) (last out : List ℕ) → 2 ≤ segment_len c → 1 ≤ c.passes
    → HoldsNewestBlocks c h0 buf (λ _. column_number_after_slices c (4 * c.passes)) → lanes ≡ c.lanes → len ≡ lane_len c → n ≡ c.tag_len
    → last ≡ xor_of_column_blocks (map (λ l. get_or buf (l * len + (len - 1)) []) (range_with_len 0 lanes))
    → out ≡ long_hash n (bytes_of_words last) → out ≡ tag_by_first_hash c h0
unfolding tag_by_first_hash
tag_is c h0 buf lanes len n last out hs hp newest el elen en elast e =
    let column = last_is c h0 buf hs hp newest in
    let same : last ≡ xor_of_column_blocks (get_or (matrix_columns c h0 (c.passes * lane_len c - 2)) (c.passes * lane_len c - 1) []) =
    elast ∙ rw (el, elen) (ap xor_of_column_blocks column) in
    e ∙ rw (same, en) refl
