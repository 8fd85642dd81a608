-- Blocks that are held in planes.
use Rattle.std.proofs.Common.{◌≡◌, ℕ, zero, suc, ◌+◌, ◌%◌, ◌<◌, List, [], ◌∷◌, ◌++◌, add-zero, ap, arith, bit_and, bit_xor, drop, length, min, refl, sym, ◌∙◌}
use lib.Lanes.{zip2}
use Rattle.std.specs.Int.{bit_at}
use Rattle.std.proofs.lemmas.List.{get_or-drop, length-map, map-append}
use Rattle.std.proofs.lemmas.Nat.Bits.{bit_at-lt, bit_at_and, bit_at_xor}
use Rattle.aes_ctr.specs.Aes.{shift_rows}
use Rattle.aes_ctr.specs.Planes.{IsAesBlock, BitPlanesHoldBytes, bits, plane}
use Rattle.aes_ctr.specs.Inside.PlaneSteps.{applied_to_both_blocks, row_below_in_plane}
use Rattle.aes_ctr.proofs.Pairs.{IsBlockPair-append, bits-applied_to_both_blocks, applied_to_both_blocks-append}
use Rattle.aes_ctr.proofs.Sixteen.{sixteen_lanes}

-- ---- one bit

xor_of_bits : (x y : ℕ) → x < 2 → y < 2 → (x + y) % 2 ≡ bit_xor x y
xor_of_bits zero zero h i = refl
xor_of_bits zero (suc zero) h i = refl
xor_of_bits (suc zero) zero h i = refl
xor_of_bits (suc zero) (suc zero) h i = refl
xor_of_bits (suc (suc x)) y h i = absurd (omega arith)
xor_of_bits x (suc (suc y)) h i = absurd (omega arith)

and_of_bits : (x y : ℕ) → x < 2 → y < 2 → min x y ≡ bit_and x y
and_of_bits zero zero h i = refl
and_of_bits zero (suc zero) h i = refl
and_of_bits (suc zero) zero h i = refl
and_of_bits (suc zero) (suc zero) h i = refl
and_of_bits (suc (suc x)) y h i = absurd (omega arith)
and_of_bits x (suc (suc y)) h i = absurd (omega arith)

pub bit_at-bit_xor : (a b i : ℕ) → bit_at (bit_xor a b) i ≡ bit_xor (bit_at a i) (bit_at b i)
bit_at-bit_xor a b i = bit_at_xor a b i ∙ xor_of_bits (bit_at a i) (bit_at b i) (bit_at-lt a i) (bit_at-lt b i)

pub bit_at-bit_and : (a b i : ℕ) → bit_at (bit_and a b) i ≡ bit_and (bit_at a i) (bit_at b i)
bit_at-bit_and a b i = bit_at_and a b i ∙ and_of_bits (bit_at a i) (bit_at b i) (bit_at-lt a i) (bit_at-lt b i)

-- ---- one bit of each byte

-- an operation on each bit
abbrev pub IsBitwise : (ℕ → ℕ → ℕ) → Type 0
IsBitwise f = (a b i : ℕ) → bit_at (f a b) i ≡ f (bit_at a i) (bit_at b i)

pub bits-zip2 : (f : ℕ → ℕ → ℕ) → IsBitwise f → (i : ℕ) (xs ys : List ℕ) → bits i (zip2 f xs ys) ≡ zip2 f (bits i xs) (bits i ys)
bits-zip2 f e i [] ys = refl
bits-zip2 f e i (x ∷ xs) [] = refl
bits-zip2 f e i (x ∷ xs) (y ∷ ys) = rw (e x y i, bits-zip2 f e i xs ys) refl

-- ---- planes

-- what holds of each of eight
pub below_eight : (P : ℕ → Type 0) → P 0 → P 1 → P 2 → P 3 → P 4 → P 5 → P 6 → P 7 → (k : ℕ) → k < 8 → P k
below_eight P p0 p1 p2 p3 p4 p5 p6 p7 zero h = p0
below_eight P p0 p1 p2 p3 p4 p5 p6 p7 (suc zero) h = p1
below_eight P p0 p1 p2 p3 p4 p5 p6 p7 (suc (suc zero)) h = p2
below_eight P p0 p1 p2 p3 p4 p5 p6 p7 (suc (suc (suc zero))) h = p3
below_eight P p0 p1 p2 p3 p4 p5 p6 p7 (suc (suc (suc (suc zero)))) h = p4
below_eight P p0 p1 p2 p3 p4 p5 p6 p7 (suc (suc (suc (suc (suc zero))))) h = p5
below_eight P p0 p1 p2 p3 p4 p5 p6 p7 (suc (suc (suc (suc (suc (suc zero)))))) h = p6
below_eight P p0 p1 p2 p3 p4 p5 p6 p7 (suc (suc (suc (suc (suc (suc (suc zero))))))) h = p7
below_eight P p0 p1 p2 p3 p4 p5 p6 p7 (suc (suc (suc (suc (suc (suc (suc (suc k)))))))) h = absurd (omega arith)

-- eight planes from plane n on, for both blocks of a pair
pub BitPlanesHoldBytes-dropped : (b n : ℕ) (planes : List (List ℕ)) (block : List ℕ) → {m0 m1 m2 m3 m4 m5 m6 m7 : List ℕ}
    → m0 ≡ plane planes n ++ plane planes n → m1 ≡ plane planes (n + 1) ++ plane planes (n + 1) → m2 ≡ plane planes (n + 2) ++ plane planes (n + 2) → m3 ≡ plane planes (n + 3) ++ plane planes (n + 3)
    → m4 ≡ plane planes (n + 4) ++ plane planes (n + 4) → m5 ≡ plane planes (n + 5) ++ plane planes (n + 5) → m6 ≡ plane planes (n + 6) ++ plane planes (n + 6) → m7 ≡ plane planes (n + 7) ++ plane planes (n + 7)
    → BitPlanesHoldBytes b (drop n planes) block → BitPlanesHoldBytes b (m0 ∷ m1 ∷ m2 ∷ m3 ∷ m4 ∷ m5 ∷ m6 ∷ m7 ∷ []) (block ++ block)
BitPlanesHoldBytes-dropped b n planes block {m0 = m0} {m1 = m1} {m2 = m2} {m3 = m3} {m4 = m4} {m5 = m5} {m6 = m6} {m7 = m7} e0 e1 e2 e3 e4 e5 e6 e7 held =
    below_eight (λ k. bits b (plane (m0 ∷ m1 ∷ m2 ∷ m3 ∷ m4 ∷ m5 ∷ m6 ∷ m7 ∷ []) k) ≡ bits k (block ++ block))
    (at 0 (omega arith) m0 (rw (add-zero n) e0)) (at 1 (omega arith) m1 e1) (at 2 (omega arith) m2 e2) (at 3 (omega arith) m3 e3) (at 4 (omega arith) m4 e4) (at 5 (omega arith) m5 e5) (at 6 (omega arith) m6 e6) (at 7 (omega arith) m7 e7)
  where
    one : (k : ℕ) → k < 8 → bits b (plane planes (n + k)) ≡ bits k block
    one k h = ap (bits b) (sym (get_or-drop n planes k [])) ∙ held k h

    at : (k : ℕ) → k < 8 → (m : List ℕ) → m ≡ plane planes (n + k) ++ plane planes (n + k) → bits b m ≡ bits k (block ++ block)
    at k h m same =
        ap (bits b) same ∙ map-append (λ a. bit_at a b) (plane planes (n + k)) (plane planes (n + k))
        ∙ ap (λ l. l ++ l) (one k h) ∙ sym (map-append (λ a. bit_at a k) block block)

-- a plane whose bits are those of a block is as long
pub length-held : (b k : ℕ) (p block : List ℕ) → bits b p ≡ bits k block → length p ≡ length block
length-held b k p block e = sym (length-map p (λ a. bit_at a b)) ∙ rw e (length-map block (λ a. bit_at a k))

-- a step that takes the bytes of a block to other places, on planes
pub BitPlanesHoldBytes-moved : (f : List ℕ → List ℕ) → ((i : ℕ) (x : List ℕ) → length x ≡ 16 → bits i (f x) ≡ f (bits i x))
    → (b : ℕ) (planes moved : List (List ℕ)) (first second : List ℕ) → ((k : ℕ) → k < 8 → plane moved k ≡ applied_to_both_blocks f (plane planes k))
    → IsAesBlock first → IsAesBlock second → BitPlanesHoldBytes b planes (first ++ second) → BitPlanesHoldBytes b moved (f first ++ f second)
BitPlanesHoldBytes-moved f e b planes moved first second same ok also held k h =
    ap (bits b) (same k h) ∙ bits-applied_to_both_blocks f e b (plane planes k) (length-held b k (plane planes k) (first ++ second) (held k h) ∙ long)
    ∙ ap (applied_to_both_blocks f) (held k h) ∙ sym (bits-applied_to_both_blocks f e k (first ++ second) long)
    ∙ ap (bits k) (applied_to_both_blocks-append f first second ok.0)
  where
    long : length (first ++ second) ≡ 32
    long = (IsBlockPair-append first second ok also).0

pub BitPlanesHoldBytes-xor : (b : ℕ) (left right : List (List ℕ)) (first second : List ℕ) → BitPlanesHoldBytes b left first → BitPlanesHoldBytes b right second
    → BitPlanesHoldBytes b (zip2 bit_xor (plane left 0) (plane right 0) ∷ zip2 bit_xor (plane left 1) (plane right 1) ∷ zip2 bit_xor (plane left 2) (plane right 2) ∷ zip2 bit_xor (plane left 3) (plane right 3) ∷ zip2 bit_xor (plane left 4) (plane right 4) ∷ zip2 bit_xor (plane left 5) (plane right 5) ∷ zip2 bit_xor (plane left 6) (plane right 6) ∷ zip2 bit_xor (plane left 7) (plane right 7) ∷ []) (zip2 bit_xor first second)
BitPlanesHoldBytes-xor b left right first second l r =
    below_eight (λ k. bits b (plane (zip2 bit_xor (plane left 0) (plane right 0) ∷ zip2 bit_xor (plane left 1) (plane right 1) ∷ zip2 bit_xor (plane left 2) (plane right 2) ∷ zip2 bit_xor (plane left 3) (plane right 3) ∷ zip2 bit_xor (plane left 4) (plane right 4) ∷ zip2 bit_xor (plane left 5) (plane right 5) ∷ zip2 bit_xor (plane left 6) (plane right 6) ∷ zip2 bit_xor (plane left 7) (plane right 7) ∷ []) k) ≡ bits k (zip2 bit_xor first second))
    (sum 0 (omega arith)) (sum 1 (omega arith)) (sum 2 (omega arith)) (sum 3 (omega arith)) (sum 4 (omega arith)) (sum 5 (omega arith)) (sum 6 (omega arith)) (sum 7 (omega arith))
  where
    sum : (k : ℕ) → k < 8 → bits b (zip2 bit_xor (plane left k) (plane right k)) ≡ bits k (zip2 bit_xor first second)
    sum k h =
        rw (bits-zip2 bit_xor bit_at-bit_xor b (plane left k) (plane right k), l k h, r k h) (sym (bits-zip2 bit_xor bit_at-bit_xor k first second))

-- ---- bits that are taken to other places

pub bits-shift_rows : (i : ℕ) (x : List ℕ) → length x ≡ 16 → bits i (shift_rows x) ≡ shift_rows (bits i x)
unfolding shift_rows
bits-shift_rows i = sixteen_lanes (λ x. bits i (shift_rows x) ≡ shift_rows (bits i x)) (λ x0 x1 x2 x3 x4 x5 x6 x7 x8 x9 x10 x11 x12 x13 x14 x15. refl)

pub bits-row_below_in_plane : (i : ℕ) (x : List ℕ) → length x ≡ 16 → bits i (row_below_in_plane x) ≡ row_below_in_plane (bits i x)
unfolding row_below_in_plane
bits-row_below_in_plane i = sixteen_lanes (λ x. bits i (row_below_in_plane x) ≡ row_below_in_plane (bits i x)) (λ x0 x1 x2 x3 x4 x5 x6 x7 x8 x9 x10 x11 x12 x13 x14 x15. refl)
