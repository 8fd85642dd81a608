-- Facts of one byte, by going through all 256.
use Rattle.std.proofs.Common.{◌≡◌, ℕ, ◌+◌, ◌*◌, ◌%◌, ◌<◌, arith, ap, bit_and, bit_xor, cond, eqb, leb, map, refl, slice_index, sym, ◌∙◌}
use lib.Lanes.{top}
use Rattle.std.specs.List.{range_with_len}
use Rattle.std.proofs.lemmas.List.FromFn.{get_or-map-range_with_len}
use Rattle.std.proofs.lemmas.Simd.{map-map}
use Rattle.aes_ctr.specs.Aes.{polynomial_product, product, polynomial_remainder, sub_byte}
use Rattle.aes_ctr.proofs.SBox.{entries, sub_byte-entries}

-- two functions that agree on the list of all bytes agree at each byte
pub by_table : (f g : ℕ → ℕ) → map f (range_with_len 0 256) ≡ map g (range_with_len 0 256) → (b : ℕ) → b < 256 → f b ≡ g b
by_table f g e b h =
    sym (get_or-map-range_with_len f 0 256 b b 0 h (omega arith)) ∙ ap (λ xs. slice_index xs b) e
    ∙ get_or-map-range_with_len g 0 256 b b 0 h (omega arith)

-- ---- products

pub product-one : (b : ℕ) → b < 256 → product 1 b ≡ b
unfolding product polynomial_product polynomial_remainder
product-one = by_table (product 1) (λ b. b) refl

pub xor-product_two : (b : ℕ) → b < 256 → bit_xor b (product 2 b) ≡ product 3 b
unfolding product polynomial_product polynomial_remainder
xor-product_two = by_table (λ b. bit_xor b (product 2 b)) (product 3) refl

-- a lane of `double`
abbrev pub doubled_lane : ℕ → ℕ
doubled_lane b = bit_xor ((b + b) % 256) (cond (top 7 (cond (leb 128 b) 255 0)) 27 0)

pub doubled_lane-is : (b : ℕ) → b < 256 → doubled_lane b ≡ product 2 b
unfolding product polynomial_product polynomial_remainder
doubled_lane-is = by_table doubled_lane (product 2) refl

product_two-reduced : map (λ b. product 2 b % 256) (range_with_len 0 256) ≡ map (product 2) (range_with_len 0 256)
unfolding product polynomial_product polynomial_remainder
product_two-reduced = refl

pub product_two-lt : (b : ℕ) → b < 256 → product 2 b < 256
product_two-lt b h =
    let same : product 2 b % 256 ≡ product 2 b = by_table (λ b. product 2 b % 256) (product 2) product_two-reduced b h in
    omega (arith, same)

-- ---- the S-box

entries-reduced : map (λ b. b % 256) entries ≡ entries
entries-reduced = refl

sub_byte-reduced : map (λ b. sub_byte b % 256) (range_with_len 0 256) ≡ map sub_byte (range_with_len 0 256)
sub_byte-reduced =
    sym (map-map (λ b. b % 256) sub_byte (range_with_len 0 256)) ∙ ap (map (λ b. b % 256)) sub_byte-entries
    ∙ entries-reduced ∙ sym sub_byte-entries

pub sub_byte-lt : (b : ℕ) → b < 256 → sub_byte b < 256
sub_byte-lt b h =
    let same : sub_byte b % 256 ≡ sub_byte b = by_table (λ b. sub_byte b % 256) sub_byte sub_byte-reduced b h in
    omega (arith, same)

-- ---- low bits

pub bit_and-fifteen : (b : ℕ) → b < 256 → bit_and b 15 ≡ b % 16
bit_and-fifteen = by_table (λ b. bit_and b 15) (λ b. b % 16) refl

-- the low bits of a byte, from a bit and the bits below it
abbrev pub HasLowBits : ℕ → Type 0
HasLowBits bit = (b : ℕ) → b < 256 → cond (eqb (bit_and b bit) bit) (bit + b % bit) (b % bit) ≡ b % (2 * bit)

pub HasLowBits-16 : HasLowBits 16
HasLowBits-16 = by_table (λ b. cond (eqb (bit_and b 16) 16) (16 + b % 16) (b % 16)) (λ b. b % 32) refl

pub HasLowBits-32 : HasLowBits 32
HasLowBits-32 = by_table (λ b. cond (eqb (bit_and b 32) 32) (32 + b % 32) (b % 32)) (λ b. b % 64) refl

pub HasLowBits-64 : HasLowBits 64
HasLowBits-64 = by_table (λ b. cond (eqb (bit_and b 64) 64) (64 + b % 64) (b % 64)) (λ b. b % 128) refl

pub HasLowBits-128 : HasLowBits 128
HasLowBits-128 = by_table (λ b. cond (eqb (bit_and b 128) 128) (128 + b % 128) (b % 128)) (λ b. b % 256) refl
