-- The double of each byte, bit by bit, and MixColumns from the doubles of sums.
use Rattle.std.proofs.Common.{◌≡◌, ℕ, ◌<◌, List, [], ◌∷◌, arith, bit_xor, map, refl, sym, w8, Fits, ◌∙◌}
use lib.Bits.{xor_assoc, xor_comm}
use lib.Lanes.{Each1, zip2}
use Rattle.std.specs.Int.{bit_at}
use Rattle.std.proofs.lemmas.Nat.{xor_lt}
use Rattle.std.proofs.lemmas.Nat.Bits.{same_from_bits_below}
use Rattle.std.proofs.lemmas.Simd.{Each1-weaker, map-map, zip2_of_maps}
use Rattle.aes_ctr.specs.Aes.{mix_columns, polynomial_product, product, polynomial_remainder}
use Rattle.aes_ctr.specs.Planes.{IsAesBlock, BitPlanesHoldBytes, bits, plane}
use Rattle.aes_ctr.specs.Inside.PlaneSteps.{IsBlockPair, row_below_in_plane}
use Rattle.aes_ctr.proofs.Bytes.{by_table, product_two-lt}
use Rattle.aes_ctr.proofs.Columns.{by_columns, by_columns-agreeing, doubles_column, doubles_column-is, matrix_column}
use Rattle.aes_ctr.proofs.Held.{below_eight, bit_at-bit_xor, bits-zip2}
use Rattle.aes_ctr.proofs.Sixteen.{map-agreeing, sixteen_lanes}

-- bit k of the double of a byte
abbrev IsDoubleBit : ℕ → (ℕ → ℕ) → Type 0
IsDoubleBit k bit = (a : ℕ) → a < 256 → bit a ≡ bit_at (product 2 a) k

-- bit j moved up
abbrev moved : ℕ → ℕ → ℕ
moved j a = bit_at a j

-- bit j moved up, where the highest bit makes another
abbrev carried : ℕ → ℕ → ℕ
carried j a = bit_xor (bit_at a j) (bit_at a 7)

double_bit_0 : IsDoubleBit 0 (moved 7)
unfolding product polynomial_product polynomial_remainder
double_bit_0 = by_table (moved 7) (λ a. bit_at (product 2 a) 0) refl

double_bit_1 : IsDoubleBit 1 (carried 0)
unfolding product polynomial_product polynomial_remainder
double_bit_1 = by_table (carried 0) (λ a. bit_at (product 2 a) 1) refl

double_bit_2 : IsDoubleBit 2 (moved 1)
unfolding product polynomial_product polynomial_remainder
double_bit_2 = by_table (moved 1) (λ a. bit_at (product 2 a) 2) refl

double_bit_3 : IsDoubleBit 3 (carried 2)
unfolding product polynomial_product polynomial_remainder
double_bit_3 = by_table (carried 2) (λ a. bit_at (product 2 a) 3) refl

double_bit_4 : IsDoubleBit 4 (carried 3)
unfolding product polynomial_product polynomial_remainder
double_bit_4 = by_table (carried 3) (λ a. bit_at (product 2 a) 4) refl

double_bit_5 : IsDoubleBit 5 (moved 4)
unfolding product polynomial_product polynomial_remainder
double_bit_5 = by_table (moved 4) (λ a. bit_at (product 2 a) 5) refl

double_bit_6 : IsDoubleBit 6 (moved 5)
unfolding product polynomial_product polynomial_remainder
double_bit_6 = by_table (moved 5) (λ a. bit_at (product 2 a) 6) refl

double_bit_7 : IsDoubleBit 7 (moved 6)
unfolding product polynomial_product polynomial_remainder
double_bit_7 = by_table (moved 6) (λ a. bit_at (product 2 a) 7) refl

-- ---- the double of a sum

xor-exchanged : (p q r s : ℕ) → bit_xor (bit_xor p q) (bit_xor r s) ≡ bit_xor (bit_xor p r) (bit_xor q s)
xor-exchanged p q r s = rw (xor_assoc p q (bit_xor r s), ← xor_assoc q r s, xor_comm q r, xor_assoc r q s, ← xor_assoc p r (bit_xor q s)) refl

abbrev IsSumOfBits : (ℕ → ℕ) → Type 0
IsSumOfBits bit = (a b : ℕ) → bit (bit_xor a b) ≡ bit_xor (bit a) (bit b)

moved-sum : (j : ℕ) → IsSumOfBits (moved j)
moved-sum j a b = bit_at-bit_xor a b j

carried-sum : (j : ℕ) → IsSumOfBits (carried j)
carried-sum j a b = rw (bit_at-bit_xor a b j, bit_at-bit_xor a b 7) (xor-exchanged (bit_at a j) (bit_at b j) (bit_at a 7) (bit_at b 7))

sum_bit : (k : ℕ) (bit : ℕ → ℕ) → IsDoubleBit k bit → IsSumOfBits bit → (a b : ℕ) → a < 256 → b < 256
    → bit_at (product 2 (bit_xor a b)) k ≡ bit_at (bit_xor (product 2 a) (product 2 b)) k
sum_bit k bit e sum a b h i =
    sym (e (bit_xor a b) (xor_lt 8 a b h i)) ∙ sum a b ∙ rw (e a h, e b i) (sym (bit_at-bit_xor (product 2 a) (product 2 b) k))

pub product_two-xor : (a b : ℕ) → a < 256 → b < 256 → product 2 (bit_xor a b) ≡ bit_xor (product 2 a) (product 2 b)
product_two-xor a b h i =
    same_from_bits_below 8 (product 2 (bit_xor a b)) (bit_xor (product 2 a) (product 2 b)) (product_two-lt (bit_xor a b) (xor_lt 8 a b h i))
    (xor_lt 8 (product 2 a) (product 2 b) (product_two-lt a h) (product_two-lt b i))
    (below_eight (λ k. bit_at (product 2 (bit_xor a b)) k ≡ bit_at (bit_xor (product 2 a) (product 2 b)) k)
    (sum_bit 0 (moved 7) double_bit_0 (moved-sum 7) a b h i)
    (sum_bit 1 (carried 0) double_bit_1 (carried-sum 0) a b h i)
    (sum_bit 2 (moved 1) double_bit_2 (moved-sum 1) a b h i)
    (sum_bit 3 (carried 2) double_bit_3 (carried-sum 2) a b h i)
    (sum_bit 4 (carried 3) double_bit_4 (carried-sum 3) a b h i)
    (sum_bit 5 (moved 4) double_bit_5 (moved-sum 4) a b h i)
    (sum_bit 6 (moved 5) double_bit_6 (moved-sum 5) a b h i)
    (sum_bit 7 (moved 6) double_bit_7 (moved-sum 6) a b h i))

-- ---- the doubles of a pair

pub BitPlanesHoldBytes-double : (b : ℕ) (planes : List (List ℕ)) (both : List ℕ) → IsBlockPair both → BitPlanesHoldBytes b planes both
    → BitPlanesHoldBytes b (plane planes 7 ∷ zip2 bit_xor (plane planes 0) (plane planes 7) ∷ plane planes 1 ∷ zip2 bit_xor (plane planes 2) (plane planes 7) ∷ zip2 bit_xor (plane planes 3) (plane planes 7) ∷ plane planes 4 ∷ plane planes 5 ∷ plane planes 6 ∷ []) (map (product 2) both)
BitPlanesHoldBytes-double b planes both ok held =
    below_eight (λ k. bits b (plane (plane planes 7 ∷ zip2 bit_xor (plane planes 0) (plane planes 7) ∷ plane planes 1 ∷ zip2 bit_xor (plane planes 2) (plane planes 7) ∷ zip2 bit_xor (plane planes 3) (plane planes 7) ∷ plane planes 4 ∷ plane planes 5 ∷ plane planes 6 ∷ []) k) ≡ bits k (map (product 2) both))
    (made 0 (moved 7) double_bit_0 (plane planes 7) (held 7 (omega arith)))
    (made 1 (carried 0) double_bit_1 (zip2 bit_xor (plane planes 0) (plane planes 7)) (pair 0 (omega arith)))
    (made 2 (moved 1) double_bit_2 (plane planes 1) (held 1 (omega arith)))
    (made 3 (carried 2) double_bit_3 (zip2 bit_xor (plane planes 2) (plane planes 7)) (pair 2 (omega arith)))
    (made 4 (carried 3) double_bit_4 (zip2 bit_xor (plane planes 3) (plane planes 7)) (pair 3 (omega arith)))
    (made 5 (moved 4) double_bit_5 (plane planes 4) (held 4 (omega arith)))
    (made 6 (moved 5) double_bit_6 (plane planes 5) (held 5 (omega arith)))
    (made 7 (moved 6) double_bit_7 (plane planes 6) (held 6 (omega arith)))
  where
    made : (k : ℕ) (bit : ℕ → ℕ) → IsDoubleBit k bit → (p : List ℕ) → bits b p ≡ map bit both → bits b p ≡ bits k (map (product 2) both)
    made k bit e p same =
        same ∙ map-agreeing bit (λ a. bit_at (product 2 a) k) e both (Each1-weaker (λ a. a < 256) (Fits w8) (λ a h. record { fits = h }) both ok.1)
        ∙ sym (map-map (λ a. bit_at a k) (product 2) both)

    pair : (j : ℕ) → j < 8 → bits b (zip2 bit_xor (plane planes j) (plane planes 7)) ≡ map (carried j) both
    pair j h =
        bits-zip2 bit_xor bit_at-bit_xor b (plane planes j) (plane planes 7)
        ∙ zip2_of_maps bit_xor (λ a. bit_at a j) (λ a. bit_at a 7) both (held j h) (held 7 (omega arith))

-- ---- MixColumns

-- a column from the doubles of its neighbours' sums
abbrev pairs_column : ℕ → ℕ → ℕ → ℕ → List ℕ
pairs_column a b c d =
    bit_xor (product 2 (bit_xor a b)) (bit_xor b (bit_xor c d))
    ∷ bit_xor (product 2 (bit_xor b c)) (bit_xor c (bit_xor d a))
    ∷ bit_xor (product 2 (bit_xor c d)) (bit_xor d (bit_xor a b))
    ∷ bit_xor (product 2 (bit_xor d a)) (bit_xor a (bit_xor b c)) ∷ []

pairs_row : (a b c d : ℕ) → a < 256 → b < 256
    → bit_xor (product 2 (bit_xor a b)) (bit_xor b (bit_xor c d)) ≡ bit_xor (bit_xor (product 2 a) (bit_xor b (product 2 b))) (bit_xor c d)
pairs_row a b c d h i =
    rw (product_two-xor a b h i, ← xor_assoc (bit_xor (product 2 a) (product 2 b)) b (bit_xor c d), xor_assoc (product 2 a) (product 2 b) b, xor_comm (product 2 b) b) refl

pairs_column-is : (a b c d : ℕ) → a < 256 → b < 256 → c < 256 → d < 256 → pairs_column a b c d ≡ doubles_column a b c d
pairs_column-is a b c d ha hb hc hd = rw (pairs_row a b c d ha hb, pairs_row b c d a hb hc, pairs_row c d a b hc hd, pairs_row d a b c hd ha) refl

-- the sum of each byte and the next one of its column
abbrev pub pairs : List ℕ → List ℕ
pairs block = zip2 bit_xor block (row_below_in_plane block)

pub mix_columns-pairs : (block : List ℕ) → IsAesBlock block
    → zip2 bit_xor (map (product 2) (pairs block)) (zip2 bit_xor (row_below_in_plane block) (row_below_in_plane (row_below_in_plane (pairs block)))) ≡ mix_columns block
unfolding mix_columns row_below_in_plane
mix_columns-pairs block ok =
    let bytes : Each1 (Fits w8) block = Each1-weaker (λ a. a < 256) (Fits w8) (λ a h. record { fits = h }) block ok.1 in
    sixteen_lanes (λ x. zip2 bit_xor (map (product 2) (pairs x)) (zip2 bit_xor (row_below_in_plane x) (row_below_in_plane (row_below_in_plane (pairs x)))) ≡ by_columns pairs_column x)
    (λ x0 x1 x2 x3 x4 x5 x6 x7 x8 x9 x10 x11 x12 x13 x14 x15. refl) block ok.0
    ∙ by_columns-agreeing pairs_column doubles_column pairs_column-is block bytes
    ∙ by_columns-agreeing doubles_column matrix_column doubles_column-is block bytes
    ∙ sixteen_lanes (λ x. by_columns matrix_column x ≡ mix_columns x) (λ x0 x1 x2 x3 x4 x5 x6 x7 x8 x9 x10 x11 x12 x13 x14 x15. refl) block ok.0
