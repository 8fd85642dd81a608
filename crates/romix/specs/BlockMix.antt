-- scryptBlockMix (RFC 7914, 4) on a row B of blocks. A block is 64 octets there, and here their sixteen words.
use Rattle.std.specs.Prelude.{ℕ, zero, suc, ◌+◌, ◌*◌, ◌-◌, ◌/◌, List, [], ◌++◌, length, take, drop}
use Rattle.four_words.specs.Words.{xored_words}
use Rattle.romix.specs.Salsa20.{salsa20_8}

-- B[i], block i of a row, as sixteen words
abbrev pub block_at : List ℕ → ℕ → List ℕ
block_at b i = take 16 (drop (16 * i) b)

-- 2 * r, the number of blocks of a row
abbrev pub block_count : List ℕ → ℕ
block_count b = length b / 16

-- X after i turns of step 2: before the first turn the last block, B[2 * r - 1] (step 1), and turn i, counted from 0,
-- makes it Salsa20/8 of X xor B[i] (step 2)
unfoldable pub block_mix_x_after : List ℕ → ℕ → List ℕ
block_mix_x_after b zero = block_at b (block_count b - 1)
block_mix_x_after b (suc i) = salsa20_8 (xored_words (block_mix_x_after b i) (block_at b i))

-- Y[i], which is X after turn i of step 2, counted from 0
abbrev pub block_mix_output_block : List ℕ → ℕ → List ℕ
block_mix_output_block b i = block_mix_x_after b (suc i)

-- Y[s], Y[s + 2], .., n of them (step 3)
unfoldable pub every_second_output : List ℕ → ℕ → ℕ → List ℕ
every_second_output b s zero = []
every_second_output b s (suc n) = every_second_output b s n ++ block_mix_output_block b (s + 2 * n)

-- B': Y[0], Y[2], .. and then Y[1], Y[3], .. (step 3)
unfoldable pub block_mix : List ℕ → List ℕ
block_mix b = every_second_output b 0 (block_count b / 2) ++ every_second_output b 1 (block_count b / 2)
