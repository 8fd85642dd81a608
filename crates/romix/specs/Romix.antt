-- scryptROMix (RFC 7914, 5) on a row B, over words; a row is 2 * r blocks, 128 * r octets, here 32 * r words. There is
-- no table: V and X are recursions.
use Rattle.std.specs.Prelude.{ℕ, zero, suc, ◌-◌, ◌%◌, ◌^◌, List, length, drop}
use Rattle.std.specs.Simd.Lanes.{number_l}
use Rattle.four_words.specs.Words.{xored_words}
use Rattle.romix.specs.BlockMix.{block_mix}

-- V[i] for i below N (steps 1 and 2), which is scryptBlockMix applied i times to B. At i = N it is X after step 2,
-- which is no row of V
unfoldable pub row_of_v : List ℕ → ℕ → List ℕ
row_of_v b zero = b
row_of_v b (suc i) = block_mix (row_of_v b i)

-- Integerify: the last 64 octets of X, here its last sixteen words, as a little-endian number (step 3)
unfoldable pub integerify : List ℕ → ℕ
integerify x = number_l (2 ^ 32) (drop (length x - 16) x)

-- X after i turns of step 3, with n for N; before the first turn it is X after step 2, `row_of_v b n`
unfoldable pub romix_row_after_turns : List ℕ → ℕ → ℕ → List ℕ
romix_row_after_turns b n zero = row_of_v b n
romix_row_after_turns b n (suc i) =
    block_mix (xored_words (romix_row_after_turns b n i) (row_of_v b (integerify (romix_row_after_turns b n i) % n)))

-- B', which is X after the N turns of step 3, with n for N (step 4)
unfoldable pub romix : List ℕ → ℕ → List ℕ
romix b n = romix_row_after_turns b n n
