-- The blocks of PBKDF2 at their places in the key.
use Rattle.std.proofs.Common.{◌≡◌, ℕ, zero, suc, ◌+◌, ◌-◌, ◌*◌, ◌/◌, ◌≤◌, List, ◌++◌, length, take, drop, rules, arith, add-one, ◌∙◌}
use Rattle.std.proofs.lemmas.List.{same_lists, places}
use Rattle.std.specs.Int.{w32, to_be_bytes}
use Rattle.macs.specs.Pbkdf2.{joined_blocks, pbkdf2, pbkdf2_block}
use Rattle.macs.proofs.Keys.{length-hmac_sha256}
use Rattle.macs.proofs.Blocks.{length-joined_blocks}

-- n items from place i on, where these stand in the first list
inside_first : (xs ys : List ℕ) (i n : ℕ) → i + n ≤ length xs → take n (drop i (xs ++ ys)) ≡ take n (drop i xs)
inside_first xs ys i n h = same_lists _ _ (search (rules, places)) (λ k d below. grind (arith, places))

-- the second list, after the first
second_list : (xs ys : List ℕ) (i n : ℕ) → i ≡ length xs → n ≡ length ys → take n (drop i (xs ++ ys)) ≡ ys
second_list xs ys i n h l = same_lists _ _ (search (rules, places)) (λ k d below. grind (arith, places))

inside_taken : (xs : List ℕ) (m i n : ℕ) → i + n ≤ m → m ≤ length xs → take n (drop i (take m xs)) ≡ take n (drop i xs)
inside_taken xs m i n h l = same_lists _ _ (search (rules, places)) (λ k d below. grind (arith, places))

pub long-block : (password salt : List ℕ) (i : ℕ) → length (pbkdf2_block password salt i) ≡ 32
long-block password salt i = length-hmac_sha256 password (salt ++ to_be_bytes w32 i)

-- of the joined blocks
joined-block : (password salt : List ℕ) (n m i : ℕ) → n ≡ i + suc m → take 32 (drop (32 * i) (joined_blocks password salt n)) ≡ pbkdf2_block password salt (suc i)
unfolding joined_blocks
joined-block password salt zero m i e = absurd (omega (arith, e))
joined-block password salt (suc n) zero i e =
    let same : n ≡ i = omega (arith, e) in
    rw same (second_list (joined_blocks password salt i) (pbkdf2_block password salt (suc i)) (32 * i) 32
    (omega (arith, length-joined_blocks password salt i)) (omega (arith, long-block password salt (suc i))))
joined-block password salt (suc n) (suc m) i e =
    let before : n ≡ i + suc m = omega (arith, e) in
    inside_first (joined_blocks password salt n) (pbkdf2_block password salt (suc n)) (32 * i) 32
    (omega (arith, length-joined_blocks password salt n, before))
    ∙ joined-block password salt n m i before

-- of a key of any length
pub key-block : (password salt : List ℕ) (len i : ℕ) → 32 * (i + 1) ≤ len → take 32 (drop (32 * i) (pbkdf2 password salt len)) ≡ pbkdf2_block password salt (i + 1)
unfolding pbkdf2
key-block password salt len i h =
    let n : ℕ = (len + 31) / 32 in
    let e : n ≡ i + suc (n - suc i) = omega arith in
    rw (add-one i) (inside_taken (joined_blocks password salt n) len (32 * i) 32 (omega arith) (omega (arith, length-joined_blocks password salt n))
    ∙ joined-block password salt n (n - suc i) i e)
