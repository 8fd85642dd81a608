-- The compression function G of Argon2 (RFC 9106, 3.5 and 3.6). A word is a number below 2 ^ 64,
-- and a block is a list of 128 words.
use Rattle.std.specs.Prelude.{ℕ, zero, suc, ◌+◌, ◌*◌, ◌%◌, ◌^◌, List, [], ◌∷◌, bit_xor, replicate, slice_index, get_or}
use Rattle.std.specs.List.{flat_map, range_with_len}
use Rattle.std.specs.Int.{w64, rotate_right}
use Rattle.four_words.specs.Words.{xored_words}
use Rattle.blake.specs.Words.{along}
use Rattle.blake.specs.Blake2b.{mixing_places}

-- (a + b + 2 * trunc(a) * trunc(b)) mod 2^64, which takes the place of the sums of BLAKE2b in GB (3.6)
abbrev pub sum_with_product : ℕ → ℕ → ℕ
sum_with_product a b = (a + b + 2 * (a % 2 ^ 32) * (b % 2 ^ 32)) % 2 ^ 64

-- half of GB on the words a, b, c, d: its first rotation and its second (3.6)
abbrev pub words_after_half_gb : ℕ → ℕ → List ℕ → List ℕ
words_after_half_gb first second words =
    let a = sum_with_product (slice_index words 0) (slice_index words 1) in
    let d = rotate_right w64 (bit_xor (slice_index words 3) a) first in
    let c = sum_with_product (slice_index words 2) d in
    let b = rotate_right w64 (bit_xor (slice_index words 1) c) second in
    a ∷ b ∷ c ∷ d ∷ []

-- GB on the words a, b, c, d (3.6)
unfoldable pub mixed_words : List ℕ → List ℕ
mixed_words words = words_after_half_gb 16 63 (words_after_half_gb 32 24 words)

-- sixteen words after the first `count` of the eight GB of the permutation P (3.6)
unfoldable pub words_after_gb_steps : List ℕ → ℕ → List ℕ
words_after_gb_steps words zero = words
words_after_gb_steps words (suc count) =
    along mixed_words (words_after_gb_steps words count) (get_or mixing_places count [])

-- the permutation P of sixteen words (3.6)
abbrev pub permutation : List ℕ → List ℕ
permutation words = words_after_gb_steps words 8

-- the places of a row of a block: sixteen words (3.5)
abbrev pub row_places : ℕ → List ℕ
row_places row = range_with_len (16 * row) 16

-- the places of a column of a block: eight pairs of words (3.5)
abbrev pub column_places : ℕ → List ℕ
column_places column =
    flat_map (λ row. (2 * column + 16 * row) ∷ (2 * column + 16 * row + 1) ∷ []) (range_with_len 0 8)

-- a block with P applied to its first `count` rows, one after another; with all eight, it is Q of R (3.5)
unfoldable pub block_after_rows : List ℕ → ℕ → List ℕ
block_after_rows block zero = block
block_after_rows block (suc count) = along permutation (block_after_rows block count) (row_places count)

-- a block with P applied to its first `count` columns, one after another; with all eight, it is Z of Q (3.5)
unfoldable pub block_after_columns : List ℕ → ℕ → List ℕ
block_after_columns block zero = block
block_after_columns block (suc count) = along permutation (block_after_columns block count) (column_places count)

-- what G makes of R: Z xor R (3.5)
unfoldable pub compression_of_xor : List ℕ → List ℕ
compression_of_xor xored = xored_words (block_after_columns (block_after_rows xored 8) 8) xored

-- G of X and Y, with R = X xor Y (3.5)
unfoldable pub compression : List ℕ → List ℕ → List ℕ
compression first second = compression_of_xor (xored_words first second)

-- the block of 128 words 0, ZERO(1024) (3.4.1.2)
abbrev pub zero_block : List ℕ
zero_block = replicate 128 0
