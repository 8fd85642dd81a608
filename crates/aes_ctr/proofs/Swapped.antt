-- Bits that are exchanged between planes.
use Rattle.std.proofs.Common.{◌≡◌, ℕ, ◌+◌, ◌-◌, ◌*◌, ◌/◌, ◌%◌, ◌^◌, ◌<◌, Bool, true, false, inl, inr, List, [], ◌∷◌, ap, arith, bit_and, bit_xor, cond, eqb, get_or, length, map, refl, replicate, sym, ◌∙◌, w8, Fits}
use lib.Lanes.{Each1, zip2}
use Rattle.std.specs.Int.{bit_at}
use Rattle.std.specs.Int.Bits.{xor_zero_r}
use Rattle.std.specs.List.{range_with_len}
use lib.Bits.{and_le_r, xor_comm}
use Rattle.std.proofs.lemmas.List.{length-map}
use Rattle.std.proofs.lemmas.List.FromFn.{get_or-map-range_with_len}
use Rattle.std.proofs.lemmas.Simd.{below_from_Fits, map-map, zip2_splat}
use Rattle.std.proofs.lemmas.Nat.Bits.{bit_at-zero, bit_at_ones}
use Rattle.aes_ctr.specs.Inside.TableParts.{choice}
use Rattle.aes_ctr.specs.Planes.{bits, plane}
use Rattle.aes_ctr.specs.Inside.PlaneSteps.{AreExchanged, AreLowBits, TakesBitFromOneOfTwo, IsBlockPair, bit_before, plane_before}
use Rattle.aes_ctr.proofs.Blocks.{AreBytes-map, AreBytes-xor}
use Rattle.aes_ctr.proofs.Held.{bit_at-bit_xor, bits-zip2}
use Rattle.aes_ctr.proofs.Sixteen.{map-agreeing}

-- two functions that agree on a table of n lines of eight
by_table_of_eight : (n : ℕ) (f g : ℕ → ℕ → ℕ)
    → map (λ a. map (f a) (range_with_len 0 8)) (range_with_len 0 n) ≡ map (λ a. map (g a) (range_with_len 0 8)) (range_with_len 0 n)
    → (a b : ℕ) → a < n → b < 8 → f a b ≡ g a b
by_table_of_eight n f g e a b h i =
    sym (entry f) ∙ ap (λ lines. get_or (get_or lines a []) b 0) e ∙ entry g
  where
    entry : (f : ℕ → ℕ → ℕ) → get_or (get_or (map (λ a. map (f a) (range_with_len 0 8)) (range_with_len 0 n)) a []) b 0 ≡ f a b
    entry f =
        ap (λ line. get_or line b 0) (get_or-map-range_with_len (λ a. map (f a) (range_with_len 0 8)) 0 n a a [] h (omega arith))
        ∙ get_or-map-range_with_len (f a) 0 8 b b 0 i (omega arith)

-- the numbers b whose binary digit of weight d is 0
abbrev pub is_low : ℕ → ℕ → Bool
is_low d b = eqb (b / d % 2) 0

-- f and g give a byte the bits with those numbers, and with the others, from bits i b and j b
pub record Parts (d : ℕ) (f g i j : ℕ → ℕ) : Type 0 where
  pub low : (a b : ℕ) → a < 256 → b < 8 → bit_at (f a) b ≡ cond (is_low d b) (bit_at a (i b)) 0
  pub high : (a b : ℕ) → a < 256 → b < 8 → bit_at (g a) b ≡ cond (is_low d b) 0 (bit_at a (j b))

xor-left : (x y : List ℕ) → length x ≡ length y → zip2 bit_xor x (map (λ _. 0) y) ≡ x
xor-left [] y h = refl
xor-left (a ∷ x) [] h = absurd (omega arith)
xor-left (a ∷ x) (b ∷ y) h = rw (xor_zero_r a, xor-left x y (omega arith)) refl

xor-right : (x y : List ℕ) → length x ≡ length y → zip2 bit_xor (map (λ _. 0) x) y ≡ y
xor-right [] [] h = refl
xor-right [] (b ∷ y) h = absurd (omega arith)
xor-right (a ∷ x) [] h = refl
xor-right (a ∷ x) (b ∷ y) h = rw (xor_comm 0 b, xor_zero_r b, xor-right x y (omega arith)) refl

-- ---- the lanes

lower_lanes : (d low : ℕ) (x y : List ℕ) → length x ≡ 32 → length y ≡ 32
    → zip2 bit_xor (zip2 bit_and x (replicate 32 low)) (zip2 (λ a n. a * 2 ^ n % 256) (zip2 bit_and y (replicate 32 low)) (replicate 32 d))
    ≡ zip2 bit_xor (map (λ a. bit_and a low) x) (map (λ a. bit_and a low * 2 ^ d % 256) y)
lower_lanes d low x y h i =
    rw (
      zip2_splat bit_and x 32 low h,
      zip2_splat bit_and y 32 low i,
      zip2_splat (λ a n. a * 2 ^ n % 256) (map (λ a. bit_and a low) y) 32 d (length-map y (λ a. bit_and a low) ∙ i),
      map-map (λ a. a * 2 ^ d % 256) (λ a. bit_and a low) y,
    ) refl

upper_lanes : (d low : ℕ) (x y : List ℕ) → length x ≡ 32 → length y ≡ 32
    → zip2 bit_xor (zip2 bit_and (zip2 (λ a n. a / 2 ^ n) x (replicate 32 d)) (replicate 32 low)) (zip2 bit_and y (replicate 32 (255 - low)))
    ≡ zip2 bit_xor (map (λ a. bit_and (a / 2 ^ d) low) x) (map (λ a. bit_and a (255 - low)) y)
upper_lanes d low x y h i =
    rw (
      zip2_splat (λ a n. a / 2 ^ n) x 32 d h,
      zip2_splat bit_and (map (λ a. a / 2 ^ d) x) 32 low (length-map x (λ a. a / 2 ^ d) ∙ h),
      map-map (λ a. bit_and a low) (λ a. a / 2 ^ d) x,
      zip2_splat bit_and y 32 (255 - low) i,
    ) refl

-- ---- the bits

pub chosen : (f g : ℕ → ℕ) (t : Bool) (b i j : ℕ) → TakesBitFromOneOfTwo f g t b i j
    → (x y : List ℕ) → (length x ≡ 32) × Each1 (Fits w8) x → (length y ≡ 32) × Each1 (Fits w8) y
    → bits b (zip2 bit_xor (map f x) (map g y)) ≡ cond t (bits i x) (bits j y)
chosen f g true b i j e x y ok also =
    rw (
      bits-zip2 bit_xor bit_at-bit_xor b (map f x) (map g y),
      map-map (λ a. bit_at a b) f x,
      map-map (λ a. bit_at a b) g y,
      map-agreeing (λ a. bit_at (f a) b) (λ a. bit_at a i) (λ a h. (e a h).0) x ok.1,
      map-agreeing (λ a. bit_at (g a) b) (λ _. 0) (λ a h. (e a h).1) y also.1,
    )
    (xor-left (bits i x) y (length-map x (λ a. bit_at a i) ∙ ok.0 ∙ sym also.0))
chosen f g false b i j e x y ok also =
    rw (
      bits-zip2 bit_xor bit_at-bit_xor b (map f x) (map g y),
      map-map (λ a. bit_at a b) f x,
      map-map (λ a. bit_at a b) g y,
      map-agreeing (λ a. bit_at (f a) b) (λ _. 0) (λ a h. (e a h).0) x ok.1,
      map-agreeing (λ a. bit_at (g a) b) (λ a. bit_at a j) (λ a h. (e a h).1) y also.1,
    )
    (xor-right x (bits j y) (ok.0 ∙ sym also.0 ∙ sym (length-map y (λ a. bit_at a j))))

one_of_planes : (t : Bool) (i j m n : ℕ) (planes : List (List ℕ)) → cond t (bits i (plane planes m)) (bits j (plane planes n)) ≡ bits (cond t i j) (plane planes (cond t m n))
one_of_planes true i j m n planes = refl
one_of_planes false i j m n planes = refl

-- a plane that was made of planes m and n
pub from_planes : (d : ℕ) (f g i j : ℕ → ℕ) → Parts d f g i j → (m n : ℕ) (planes : List (List ℕ)) (made : List ℕ)
    → ((t : Bool) (b i j : ℕ) → TakesBitFromOneOfTwo f g t b i j → bits b made ≡ cond t (bits i (plane planes m)) (bits j (plane planes n)))
    → (b : ℕ) → b < 8 → bits b made ≡ bits (cond (is_low d b) (i b) (j b)) (plane planes (cond (is_low d b) m n))
from_planes d f g i j parts m n planes made e b h =
    e (is_low d b) b (i b) (j b) (λ a small. (parts.low a b small h, parts.high a b small h)) ∙ one_of_planes (is_low d b) (i b) (j b) m n planes

pub merged_lower_bits-chosen : (d low : ℕ) (x y : List ℕ) → (length x ≡ 32) × Each1 (Fits w8) x → (length y ≡ 32) × Each1 (Fits w8) y → (t : Bool) (b i j : ℕ)
    → TakesBitFromOneOfTwo (λ a. bit_and a low) (λ a. bit_and a low * 2 ^ d % 256) t b i j
    → bits b (zip2 bit_xor (zip2 bit_and x (replicate 32 low)) (zip2 (λ a n. a * 2 ^ n % 256) (zip2 bit_and y (replicate 32 low)) (replicate 32 d)))
    ≡ cond t (bits i x) (bits j y)
merged_lower_bits-chosen d low x y ok also t b i j e =
    rw (lower_lanes d low x y ok.0 also.0) (chosen (λ a. bit_and a low) (λ a. bit_and a low * 2 ^ d % 256) t b i j e x y ok also)

pub merged_upper_bits-chosen : (d low : ℕ) (x y : List ℕ) → (length x ≡ 32) × Each1 (Fits w8) x → (length y ≡ 32) × Each1 (Fits w8) y → (t : Bool) (b i j : ℕ)
    → TakesBitFromOneOfTwo (λ a. bit_and (a / 2 ^ d) low) (λ a. bit_and a (255 - low)) t b i j
    → bits b (zip2 bit_xor (zip2 bit_and (zip2 (λ a n. a / 2 ^ n) x (replicate 32 d)) (replicate 32 low)) (zip2 bit_and y (replicate 32 (255 - low))))
    ≡ cond t (bits i x) (bits j y)
merged_upper_bits-chosen d low x y ok also t b i j e =
    rw (upper_lanes d low x y ok.0 also.0) (chosen (λ a. bit_and (a / 2 ^ d) low) (λ a. bit_and a (255 - low)) t b i j e x y ok also)

lanes_below : (x : List ℕ) → (length x ≡ 32) × Each1 (Fits w8) x → IsBlockPair x
lanes_below x ok = (ok.0, below_from_Fits w8 x ok.1)

pub merged_lower_bits-bytes : (d low : ℕ) → low < 256 → (x y : List ℕ) → (length x ≡ 32) × Each1 (Fits w8) x → (length y ≡ 32) × Each1 (Fits w8) y
    → IsBlockPair x × IsBlockPair y
    × IsBlockPair (zip2 bit_xor (zip2 bit_and x (replicate 32 low)) (zip2 (λ a n. a * 2 ^ n % 256) (zip2 bit_and y (replicate 32 low)) (replicate 32 d)))
merged_lower_bits-bytes d low small x y ok also = (
  lanes_below x ok,
  lanes_below y also,
  rw (lower_lanes d low x y ok.0 also.0)
      (AreBytes-xor (map (λ a. bit_and a low) x) (map (λ a. bit_and a low * 2 ^ d % 256) y)
      (AreBytes-map (λ a. bit_and a low) (λ a h. omega (arith, and_le_r a low)) x (lanes_below x ok))
      (AreBytes-map (λ a. bit_and a low * 2 ^ d % 256) (λ a h. omega arith) y (lanes_below y also))),
)

pub merged_upper_bits-bytes : (d low : ℕ) → low < 256 → (x y : List ℕ) → (length x ≡ 32) × Each1 (Fits w8) x → (length y ≡ 32) × Each1 (Fits w8) y
    → IsBlockPair x × IsBlockPair y
    × IsBlockPair (zip2 bit_xor (zip2 bit_and (zip2 (λ a n. a / 2 ^ n) x (replicate 32 d)) (replicate 32 low)) (zip2 bit_and y (replicate 32 (255 - low))))
merged_upper_bits-bytes d low small x y ok also = (
  lanes_below x ok,
  lanes_below y also,
  rw (upper_lanes d low x y ok.0 also.0)
      (AreBytes-xor (map (λ a. bit_and (a / 2 ^ d) low) x) (map (λ a. bit_and a (255 - low)) y)
      (AreBytes-map (λ a. bit_and (a / 2 ^ d) low) (λ a h. omega (arith, and_le_r (a / 2 ^ d) low)) x (lanes_below x ok))
      (AreBytes-map (λ a. bit_and a (255 - low)) (λ a h. omega (arith, and_le_r a (255 - low))) y (lanes_below y also))),
)

-- ---- the three exchanges

pub lower_1 : Parts 1 (λ a. bit_and a 85) (λ a. bit_and a 85 * 2 ^ 1 % 256) (λ b. b) (λ b. b - 1)
lower_1 = record {
  low = by_table_of_eight 256 (λ a b. bit_at (bit_and a 85) b) (λ a b. cond (is_low 1 b) (bit_at a b) 0) refl;
  high = by_table_of_eight 256 (λ a b. bit_at (bit_and a 85 * 2 ^ 1 % 256) b) (λ a b. cond (is_low 1 b) 0 (bit_at a (b - 1))) refl;
}

pub upper_1 : Parts 1 (λ a. bit_and (a / 2 ^ 1) 85) (λ a. bit_and a (255 - 85)) (λ b. b + 1) (λ b. b)
upper_1 = record {
  low = by_table_of_eight 256 (λ a b. bit_at (bit_and (a / 2 ^ 1) 85) b) (λ a b. cond (is_low 1 b) (bit_at a (b + 1)) 0) refl;
  high = by_table_of_eight 256 (λ a b. bit_at (bit_and a (255 - 85)) b) (λ a b. cond (is_low 1 b) 0 (bit_at a b)) refl;
}

pub lower_2 : Parts 2 (λ a. bit_and a 51) (λ a. bit_and a 51 * 2 ^ 2 % 256) (λ b. b) (λ b. b - 2)
lower_2 = record {
  low = by_table_of_eight 256 (λ a b. bit_at (bit_and a 51) b) (λ a b. cond (is_low 2 b) (bit_at a b) 0) refl;
  high = by_table_of_eight 256 (λ a b. bit_at (bit_and a 51 * 2 ^ 2 % 256) b) (λ a b. cond (is_low 2 b) 0 (bit_at a (b - 2))) refl;
}

pub upper_2 : Parts 2 (λ a. bit_and (a / 2 ^ 2) 51) (λ a. bit_and a (255 - 51)) (λ b. b + 2) (λ b. b)
upper_2 = record {
  low = by_table_of_eight 256 (λ a b. bit_at (bit_and (a / 2 ^ 2) 51) b) (λ a b. cond (is_low 2 b) (bit_at a (b + 2)) 0) refl;
  high = by_table_of_eight 256 (λ a b. bit_at (bit_and a (255 - 51)) b) (λ a b. cond (is_low 2 b) 0 (bit_at a b)) refl;
}

pub lower_4 : Parts 4 (λ a. bit_and a 15) (λ a. bit_and a 15 * 2 ^ 4 % 256) (λ b. b) (λ b. b - 4)
lower_4 = record {
  low = by_table_of_eight 256 (λ a b. bit_at (bit_and a 15) b) (λ a b. cond (is_low 4 b) (bit_at a b) 0) refl;
  high = by_table_of_eight 256 (λ a b. bit_at (bit_and a 15 * 2 ^ 4 % 256) b) (λ a b. cond (is_low 4 b) 0 (bit_at a (b - 4))) refl;
}

pub upper_4 : Parts 4 (λ a. bit_and (a / 2 ^ 4) 15) (λ a. bit_and a (255 - 15)) (λ b. b + 4) (λ b. b)
upper_4 = record {
  low = by_table_of_eight 256 (λ a b. bit_at (bit_and (a / 2 ^ 4) 15) b) (λ a b. cond (is_low 4 b) (bit_at a (b + 4)) 0) refl;
  high = by_table_of_eight 256 (λ a b. bit_at (bit_and a (255 - 15)) b) (λ a b. cond (is_low 4 b) 0 (bit_at a b)) refl;
}

pub lower_parts : (d low : ℕ) → AreLowBits d low → Parts d (λ a. bit_and a low) (λ a. bit_and a low * 2 ^ d % 256) (λ b. b) (λ b. b - d)
lower_parts d low (inl e) = rw (e.0, e.1) lower_1
lower_parts d low (inr (inl e)) = rw (e.0, e.1) lower_2
lower_parts d low (inr (inr e)) = rw (e.0, e.1) lower_4

pub upper_parts : (d low : ℕ) → AreLowBits d low → Parts d (λ a. bit_and (a / 2 ^ d) low) (λ a. bit_and a (255 - low)) (λ b. b + d) (λ b. b)
upper_parts d low (inl e) = rw (e.0, e.1) upper_1
upper_parts d low (inr (inl e)) = rw (e.0, e.1) upper_2
upper_parts d low (inr (inr e)) = rw (e.0, e.1) upper_4

-- ---- all three

below_8 : (f : ℕ → ℕ → ℕ) → ((b k : ℕ) → b < 8 → k < 8 → f b k % 8 ≡ f b k) → (b k : ℕ) → b < 8 → k < 8 → f b k < 8
below_8 f e b k h i = omega (arith, e b k h i)

bit_before-lt_4 : (b k : ℕ) → b < 8 → k < 8 → bit_before 4 b k < 8
bit_before-lt_4 = below_8 (bit_before 4) (by_table_of_eight 8 (λ b k. bit_before 4 b k % 8) (bit_before 4) refl)

plane_before-lt_4 : (b k : ℕ) → b < 8 → k < 8 → plane_before 4 b k < 8
plane_before-lt_4 = below_8 (plane_before 4) (by_table_of_eight 8 (λ b k. plane_before 4 b k % 8) (plane_before 4) refl)

bit_before-lt_2 : (b k : ℕ) → b < 8 → k < 8 → bit_before 2 b k < 8
bit_before-lt_2 = below_8 (bit_before 2) (by_table_of_eight 8 (λ b k. bit_before 2 b k % 8) (bit_before 2) refl)

plane_before-lt_2 : (b k : ℕ) → b < 8 → k < 8 → plane_before 2 b k < 8
plane_before-lt_2 = below_8 (plane_before 2) (by_table_of_eight 8 (λ b k. plane_before 2 b k % 8) (plane_before 2) refl)

-- what f makes of the numbers of the bit and the plane before the last two exchanges
abbrev before_two : (ℕ → ℕ → ℕ) → ℕ → ℕ → ℕ
before_two f b k =
    f (bit_before 2 (bit_before 4 b k) (plane_before 4 b k)) (plane_before 2 (bit_before 4 b k) (plane_before 4 b k))

first_bit : (b k : ℕ) → b < 8 → k < 8 → before_two (bit_before 1) b k ≡ k
first_bit = by_table_of_eight 8 (before_two (bit_before 1)) (λ b k. k) refl

first_plane : (b k : ℕ) → b < 8 → k < 8 → before_two (plane_before 1) b k ≡ b
first_plane = by_table_of_eight 8 (before_two (plane_before 1)) (λ b k. b) refl

pub transposed : (planes first second third : List (List ℕ)) → AreExchanged 1 planes first → AreExchanged 2 first second → AreExchanged 4 second third
    → (b k : ℕ) → b < 8 → k < 8 → bits b (plane third k) ≡ bits k (plane planes b)
transposed planes first second third one two four b k h i =
    let bit : ℕ = bit_before 4 b k in
    let from : ℕ = plane_before 4 b k in
    let bit_lt : bit_before 4 b k < 8 = bit_before-lt_4 b k h i in
    let from_lt : plane_before 4 b k < 8 = plane_before-lt_4 b k h i in
    four b k h i ∙ two bit from bit_lt from_lt
    ∙ one (bit_before 2 bit from) (plane_before 2 bit from) (bit_before-lt_2 bit from bit_lt from_lt) (plane_before-lt_2 bit from bit_lt from_lt)
    ∙ rw (first_bit b k h i, first_plane b k h i) refl

-- ---- one bit for a whole lane

pub bits-choice : (b k : ℕ) → b < 8 → k < 8 → (x : List ℕ) → Each1 (Fits w8) x → bits b (map (choice (2 ^ k) (λ _. 255) (λ _. 0)) x) ≡ bits k x
bits-choice b k small low x ok =
    map-map (λ a. bit_at a b) (choice (2 ^ k) (λ _. 255) (λ _. 0)) x
    ∙ map-agreeing (λ a. bit_at (choice (2 ^ k) (λ _. 255) (λ _. 0) a) b) (λ a. bit_at a k) same x ok
  where
    lane : (t : Bool) → bit_at (cond t 255 0) b ≡ cond t 1 0
    lane true = bit_at_ones 8 b small
    lane false = bit_at-zero b

    same : (a : ℕ) → a < 256 → bit_at (choice (2 ^ k) (λ _. 255) (λ _. 0) a) b ≡ bit_at a k
    same a h =
        lane (eqb (bit_and a (2 ^ k)) (2 ^ k))
        ∙ by_table_of_eight 256 (λ a k. cond (eqb (bit_and a (2 ^ k)) (2 ^ k)) 1 0) bit_at refl a k h low
