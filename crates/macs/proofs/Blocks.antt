-- The blocks of PBKDF2, one after another.
use Rattle.std.proofs.Common.{◌≡◌, ℕ, zero, suc, ◌+◌, ◌*◌, List, ◌++◌, length, take, rules, arith, refl, add-one, length-append}
use Rattle.std.proofs.lemmas.List.{take_all, same_lists, places}
use Rattle.std.specs.Int.{w32, to_be_bytes}
use Rattle.macs.specs.Pbkdf2.{joined_blocks, pbkdf2_block}
use Rattle.macs.proofs.Keys.{length-hmac_sha256}

-- each block has 32 bytes
pub length-joined_blocks : (password salt : List ℕ) (n : ℕ) → length (joined_blocks password salt n) ≡ 32 * n
unfolding joined_blocks
length-joined_blocks password salt zero = refl
length-joined_blocks password salt (suc n) =
    omega (
      arith,
      length-joined_blocks password salt n,
      length-append (joined_blocks password salt n) (pbkdf2_block password salt (suc n)),
      length-hmac_sha256 password (salt ++ to_be_bytes w32 (suc n)),
    )

-- the first m bytes, where the first list ends before them
take_on : (xs ys : List ℕ) (m n : ℕ) → m ≡ length xs + n → take m (xs ++ ys) ≡ xs ++ take n ys
take_on xs ys m n e = same_lists _ _ (search (rules, places)) (λ k d h. grind (arith, places))

-- n bytes of block i + 1 go on from the bytes of the first i blocks
pub blocks_more : (password salt done : List ℕ) (i start n : ℕ) → start ≡ 32 * i → done ≡ take start (joined_blocks password salt i)
    → done ++ take n (pbkdf2_block password salt (i + 1)) ≡ take (start + n) (joined_blocks password salt (i + 1))
unfolding joined_blocks
blocks_more password salt done i start n e h =
    let long = length-joined_blocks password salt i in
    let whole : take start (joined_blocks password salt i) ≡ joined_blocks password salt i = take_all _ _ (omega arith) in
    let more : take (start + n) (joined_blocks password salt i ++ pbkdf2_block password salt (suc i))
    ≡ joined_blocks password salt i ++ take n (pbkdf2_block password salt (suc i)) =
    take_on (joined_blocks password salt i) (pbkdf2_block password salt (suc i)) (start + n) n (omega arith) in
    rw (h, whole, add-one i, more)
