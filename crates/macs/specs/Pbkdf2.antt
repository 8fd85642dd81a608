-- PBKDF2 (RFC 8018, 5.2) with HMAC-SHA-256 and one iteration, as scrypt uses it (RFC 7914, 6).
use Rattle.std.specs.Prelude.{ℕ, zero, suc, ◌+◌, ◌/◌, List, [], ◌++◌, take}
use Rattle.std.specs.Int.{w32, to_be_bytes}
use Rattle.macs.specs.HmacSha256.{hmac_sha256}

-- T_i after one iteration: the HMAC of the salt and of i as four bytes, the highest first (5.2, step 3)
abbrev pub pbkdf2_block : List ℕ → List ℕ → ℕ → List ℕ
pbkdf2_block password salt i = hmac_sha256 password (salt ++ to_be_bytes w32 i)

-- T_1 || .. || T_n, after one iteration each (5.2, steps 3 and 4)
unfoldable pub joined_blocks : List ℕ → List ℕ → ℕ → List ℕ
joined_blocks password salt zero = []
joined_blocks password salt (suc n) = joined_blocks password salt n ++ pbkdf2_block password salt (suc n)

-- the derived key of n bytes: the first n of T_1 || T_2 || .., of which ceil(n / 32) blocks are enough (5.2, steps 2
-- and 4)
unfoldable pub pbkdf2 : List ℕ → List ℕ → ℕ → List ℕ
pbkdf2 password salt n = take n (joined_blocks password salt ((n + 31) / 32))
