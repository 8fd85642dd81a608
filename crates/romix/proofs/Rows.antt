-- The rows of a flat table, the rows that ROMix puts there, and its turns.
use Rattle.std.proofs.Common.{◌≡◌, ℕ, ◌+◌, ◌-◌, ◌*◌, ◌%◌, ◌^◌, ◌<◌, ◌≤◌, List, ◌∷◌, length, take, drop, slice_index, arith, ap, sym, subst, ◌∙◌, add-one, below_more}
use Rattle.std.proofs.lemmas.List.{drop-take, take-take, drop_more}
use Rattle.std.proofs.lemmas.Slice.{between-put_mid}
use Rattle.std.proofs.lemmas.Nat.{one_shl, pow-add}
use Rattle.std.proofs.Math.Nat.{add-mul-mod_self_right, mul-le-mul_left}
use Rattle.std.specs.Simd.Lanes.{number_l}
use borrow.Rule.Slice.PartMut.{put_mid}
use Rattle.four_words.specs.Words.{xored_words}
use Rattle.romix.specs.BlockMix.{block_mix}
use Rattle.romix.specs.Romix.{integerify, romix_row_after_turns, row_of_v}
use Rattle.romix.specs.Inside.Table.{row_at}

-- a row depends on the table up to its end alone
pub row_below : (t u : List ℕ) (len m k : ℕ) → len * k + len ≤ m → take m u ≡ take m t → row_at u len k ≡ row_at t len k
row_below t u len m k h e =
    let a : ℕ = len * k in
    sym (drop-take a len u) ∙ ap (drop a) (sym (take-take (a + len) m u h) ∙ ap (take (a + len)) e ∙ take-take (a + len) m t h)
    ∙ drop-take a len t

-- a row ends where a later one starts, or before
pub rows_below : (len k i : ℕ) → k < i → len * k + len ≤ len * i
rows_below len k i h = omega (arith, mul-le-mul_left len (let l : k + 1 ≤ i = omega arith in l))

-- the row that is put in the place of row i
pub row_put : (t row : List ℕ) (len i k : ℕ) → length row ≡ len → len * i ≤ length t → row_at (put_mid (len * i) k t row) len i ≡ row
row_put t row len i k long fits =
    let size : len * i + len - len * i ≡ len = omega arith in
    subst (λ (n : ℕ). take n (drop (len * i) (put_mid (len * i) k t row)) ≡ row) size
    (between-put_mid (len * i) k t row (len * i + len) fits (omega arith))

-- the code counts to N / 2, by a shift, with two rows a turn
pub half_is : (k : ℕ) → 1 ≤ k → k < 64 → 2 * (1 * 2 ^ (k - 1) % 2 ^ 64) ≡ 2 ^ k
half_is k low high =
    let e : k ≡ 1 + (k - 1) = omega arith in
    let p : 2 ^ k ≡ 2 * 2 ^ (k - 1) = ap (λ (n : ℕ). 2 ^ n) e ∙ pow-add 2 1 (k - 1) in
    rw (one_shl (k - 1) 64 (omega arith)) (sym p)

-- the two lowest_words words of a number are enough for its remainder
low_words : (a b r k : ℕ) → k ≤ 64 → (a + b * 2 ^ 32) % 2 ^ k ≡ (a + 2 ^ 32 * (b + 2 ^ 32 * r)) % 2 ^ k
low_words a b r k h =
    let e : 64 ≡ 64 - k + k = omega arith in
    let p : 2 ^ 64 ≡ 2 ^ (64 - k) * 2 ^ k = ap (λ (n : ℕ). 2 ^ n) e ∙ pow-add 2 (64 - k) k in
    let whole : a + 2 ^ 32 * (b + 2 ^ 32 * r) ≡ a + b * 2 ^ 32 + r * 2 ^ (64 - k) * 2 ^ k = omega (arith, ap (λ (n : ℕ). r * n) p) in
    rw whole (sym (add-mul-mod_self_right (a + b * 2 ^ 32) (r * 2 ^ (64 - k)) (2 ^ k)))

-- the code takes the two lowest words of the last sixteen, and the remainder by a shift
pub integerify_low : (w : List ℕ) (k : ℕ) → 16 ≤ length w → k < 64 → slice_index w (length w - 16 + 1) < 2 ^ 32
    → (slice_index w (length w - 16) + slice_index w (length w - 16 + 1) * 2 ^ 32 % 2 ^ 64) % (1 * 2 ^ k % 2 ^ 64) ≡ integerify w % 2 ^ k
unfolding integerify
integerify_low w k long h fits =
    let n : ℕ = length w - 16 in
    let a : ℕ = slice_index w n in
    let b : ℕ = slice_index w (n + 1) in
    let high : b * 2 ^ 32 % 2 ^ 64 ≡ b * 2 ^ 32 = omega arith in
    let first : drop n w ≡ a ∷ drop (n + 1) w = drop_more w n 0 (omega arith) in
    let second : drop (n + 1) w ≡ b ∷ drop (n + 1 + 1) w = drop_more w (n + 1) 0 (omega arith) in
    let digits : drop n w ≡ a ∷ b ∷ drop (n + 1 + 1) w = first ∙ ap (λ t. a ∷ t) second in
    rw (high, one_shl k 64 h, digits) (low_words a b (number_l (2 ^ 32) (drop (n + 1 + 1) w)) k (omega arith))

-- one more row of V
pub table_row_more : (b r s : List ℕ) (i j : ℕ) → r ≡ row_of_v b i → s ≡ block_mix r → j ≡ i + 1 → s ≡ row_of_v b j
unfolding row_of_v
table_row_more b r s i j hr hs e = rw (e, add-one i, hs, hr)

-- one more turn of X: s is r xor row t of V, and z its BlockMix
pub row_after_more : (b r t s z : List ℕ) (n i j k : ℕ) → r ≡ romix_row_after_turns b n i → t ≡ row_of_v b k → k ≡ integerify r % n → s ≡ xored_words r t → z ≡ block_mix s
    → j ≡ i + 1 → z ≡ romix_row_after_turns b n j
unfolding romix_row_after_turns
row_after_more b r t s z n i j k hr ht hk hs hz e = rw (e, add-one i, hz, hs, ht, hk, hr)

-- what holds below 2 * i and of the next two
pub two_more : (P : ℕ → Type 0) (i : ℕ) → ((k : ℕ) → k < 2 * i → P k) → P (2 * i) → P (2 * i + 1) → (k : ℕ) → k < 2 * (i + 1) → P k
two_more P i f p q k h = below_more P (2 * i + 1) (below_more P (2 * i) f p) q k (omega arith)
