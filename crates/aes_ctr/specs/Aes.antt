-- AES-256 (FIPS 197) on lists of bytes. Section and figure numbers are those of the edition of 2001.
use Rattle.std.specs.Prelude.{ℕ, zero, suc, ◌+◌, ◌-◌, ◌*◌, ◌/◌, ◌%◌, ◌^◌, ◌==◌, List, [], ◌∷◌, ◌++◌, bit_xor, drop, map, slice_index, slice_index_or, take, if◌then◌else◌}
use Rattle.std.specs.Int.{bit_at}
use Rattle.std.specs.List.{concat}
use Rattle.std.specs.Simd.Lanes.{zip2}

-- ---- bytes as polynomials over two elements (4)

-- the product of the polynomial a and the n lowest terms of b, before it is reduced (4.2)
unfoldable pub polynomial_product : ℕ → ℕ → ℕ → ℕ
polynomial_product a b zero = 0
polynomial_product a b (suc n) = bit_xor (polynomial_product a b n) (a * 2 ^ n * bit_at b n)

-- the remainder of the polynomial a, of degree below 8 + n, modulo m(x) = x ^ 8 + x ^ 4 + x ^ 3 + x + 1 (4.2)
unfoldable pub polynomial_remainder : ℕ → ℕ → ℕ
polynomial_remainder zero a = a
polynomial_remainder (suc n) a = polynomial_remainder n (bit_xor a (0x11B * 2 ^ n * bit_at a (n + 8)))

-- the product of two bytes (4.2)
unfoldable pub product : ℕ → ℕ → ℕ
product a b = polynomial_remainder 7 (polynomial_product a b 8)

-- the product of the powers of a byte with exponents 2, 4, .. 2 ^ n, each the square of the one before it (4.2)
unfoldable pub product_of_squares : ℕ → ℕ → ℕ
product_of_squares a zero = 1
product_of_squares a (suc n) = let square : ℕ = product a a in product square (product_of_squares square n)

-- the inverse of a byte, 0 for 0: the bytes but 0 are a group of 255 elements, so it is the power 254 (4.2), where 254 is
-- 2 + 4 + .. + 2 ^ 7
unfoldable pub inverse : ℕ → ℕ
inverse a = product_of_squares a 7

-- bit i of the affine transformation of b, with the bits of c = 0x63 (5.1.1)
abbrev pub affine_bit : ℕ → ℕ → ℕ
affine_bit b i =
    (bit_at b i + bit_at b ((i + 4) % 8) + bit_at b ((i + 5) % 8) + bit_at b ((i + 6) % 8)
    + bit_at b ((i + 7) % 8) + bit_at 0x63 i) % 2

-- the number that the n lowest bits of the affine transformation of b make (5.1.1)
unfoldable pub affine_bits : ℕ → ℕ → ℕ
affine_bits b zero = 0
affine_bits b (suc n) = affine_bits b n + 2 ^ n * affine_bit b n

-- the S-box: the inverse, then the affine transformation (5.1.1)
unfoldable pub sub_byte : ℕ → ℕ
sub_byte b = affine_bits (inverse b) 8

-- ---- the State: four rows and four columns of bytes, as a list of sixteen (3.4)

-- the byte in that row and column: s[r, c] = in[r + 4 c] (3.4)
abbrev pub byte_at : List ℕ → ℕ → ℕ → ℕ
byte_at state row column = slice_index state (row + 4 * column)

-- a column that has `entry row column` in each row (3.5)
abbrev pub column_of_entries : (ℕ → ℕ → ℕ) → ℕ → List ℕ
column_of_entries entry column = entry 0 column ∷ entry 1 column ∷ entry 2 column ∷ entry 3 column ∷ []

-- the state that has `entry row column` in each row and column (3.4)
abbrev pub aes_state_of_entries : (ℕ → ℕ → ℕ) → List ℕ
aes_state_of_entries entry = column_of_entries entry 0 ++ column_of_entries entry 1 ++ column_of_entries entry 2 ++ column_of_entries entry 3

-- ---- the transformations of a round

-- SubBytes (5.1.1)
unfoldable pub sub_bytes : List ℕ → List ℕ
sub_bytes state = aes_state_of_entries (λ row column. sub_byte (byte_at state row column))

-- ShiftRows: row r is rotated left by r places (5.1.2)
unfoldable pub shift_rows : List ℕ → List ℕ
shift_rows state = aes_state_of_entries (λ row column. byte_at state row ((column + row) % 4))

-- the matrix of MixColumns: its first row is 2 3 1 1, and row r is that row rotated right by r places (5.1.3)
abbrev pub mix_columns_matrix_entry : ℕ → ℕ → ℕ
mix_columns_matrix_entry row column = slice_index (2 ∷ 3 ∷ 1 ∷ 1 ∷ []) ((column + 4 - row) % 4)

-- the byte of MixColumns in a row and a column: the product of that row of its matrix and that column of the state
-- (5.1.3)
abbrev pub mixed_byte : List ℕ → ℕ → ℕ → ℕ
mixed_byte state row column =
    bit_xor
    (bit_xor (product (mix_columns_matrix_entry row 0) (byte_at state 0 column)) (product (mix_columns_matrix_entry row 1) (byte_at state 1 column)))
    (bit_xor (product (mix_columns_matrix_entry row 2) (byte_at state 2 column)) (product (mix_columns_matrix_entry row 3) (byte_at state 3 column)))

-- MixColumns (5.1.3)
unfoldable pub mix_columns : List ℕ → List ℕ
mix_columns state = aes_state_of_entries (mixed_byte state)

-- word i of a list of words, each a list of four bytes (3.5)
abbrev pub word_at : List (List ℕ) → ℕ → List ℕ
word_at words i = slice_index_or words i []

-- AddRoundKey: word 4 * round + c of the key schedule is xored into column c (5.1.4)
unfoldable pub add_round_key : List (List ℕ) → ℕ → List ℕ → List ℕ
add_round_key words round state =
    aes_state_of_entries (λ row column. bit_xor (byte_at state row column) (slice_index (word_at words (4 * round + column)) row))

-- ---- KeyExpansion with Nk = 8 and Nr = 14 (5.2)

-- SubWord (5.2)
abbrev pub sub_word : List ℕ → List ℕ
sub_word word = map sub_byte word

-- RotWord (5.2)
abbrev pub rot_word : List ℕ → List ℕ
rot_word word = drop 1 word ++ take 1 word

-- Rcon[i]: x ^ (i - 1) and three zeros (5.2)
abbrev pub round_constant : ℕ → List ℕ
round_constant i = 2 ^ (i - 1) ∷ 0 ∷ 0 ∷ 0 ∷ []

-- temp of figure 11: what word i takes from the word before it (5.2)
abbrev pub key_expansion_temp : List ℕ → ℕ → List ℕ
key_expansion_temp word i =
    if i % 8 == 0 then zip2 bit_xor (sub_word (rot_word word)) (round_constant (i / 8))
    else (if i % 8 == 4 then sub_word word else word)

-- the first n words of the key (5.2)
unfoldable pub key_words : List ℕ → ℕ → List (List ℕ)
key_words key zero = []
key_words key (suc n) = key_words key n ++ take 4 (drop (4 * n) key) ∷ []

-- the first 8 + n words of the key schedule: word 8 + n is word n xor `key_expansion_temp` of word 7 + n (5.2)
unfoldable pub schedule_words : List ℕ → ℕ → List (List ℕ)
schedule_words key zero = key_words key 8
schedule_words key (suc n) = schedule_words key n
    ++ zip2 bit_xor (word_at (schedule_words key n) n) (key_expansion_temp (word_at (schedule_words key n) (n + 7)) (n + 8)) ∷ []

-- the key schedule, 60 words (5.2)
abbrev pub key_schedule : List ℕ → List (List ℕ)
key_schedule key = schedule_words key 52

-- the key of 32 bytes of a key schedule, which begins with its 8 words (5.2)
abbrev pub key_of : List (List ℕ) → List ℕ
key_of words = concat (take 8 words)

-- ---- the cipher (5.1)

-- the state after the first AddRoundKey and n rounds with MixColumns (5.1)
unfoldable pub state_after : List (List ℕ) → List ℕ → ℕ → List ℕ
state_after words block zero = add_round_key words 0 block
state_after words block (suc n) =
    add_round_key words (suc n) (mix_columns (shift_rows (sub_bytes (state_after words block n))))

-- Cipher, of a block under a key schedule (5.1)
unfoldable pub cipher : List (List ℕ) → List ℕ → List ℕ
cipher words block = add_round_key words 14 (shift_rows (sub_bytes (state_after words block 13)))

-- AES-256: the cipher of a block of 16 bytes under a key of 32 (5)
unfoldable pub aes256 : List ℕ → List ℕ → List ℕ
aes256 key block = cipher (key_schedule key) block
