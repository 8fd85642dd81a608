-- Vectors of sixteen bytes.
use Rattle.std.proofs.Common.{◌≡◌, ℕ, suc, ◌<◌, List, [], ◌∷◌, arith, bit_xor, length, map, refl, w8, Fits}
use lib.Lanes.{Each1, zip2}
use Rattle.aes_ctr.specs.Aes.{add_round_key, sub_byte, sub_bytes}
use Rattle.aes_ctr.specs.Planes.{round_key}

-- what holds of each element and each list of n more holds of each list of n + 1 elements
first_lane : (n : ℕ) (P : List ℕ → Type 0) → ((x : ℕ) (rest : List ℕ) → length rest ≡ n → P (x ∷ rest))
    → (list : List ℕ) → length list ≡ suc n → P list
first_lane n P p (x ∷ rest) h = p x rest (omega (arith, h))
first_lane n P p [] h = absurd (omega (arith, h))

no_lane : (P : List ℕ → Type 0) → P [] → (list : List ℕ) → length list ≡ 0 → P list
no_lane P p [] h = p
no_lane P p (x ∷ rest) h = absurd (omega (arith, h))

-- what holds of each list of sixteen elements
pub sixteen_lanes : (P : List ℕ → Type 0)
    → ((x0 x1 x2 x3 x4 x5 x6 x7 x8 x9 x10 x11 x12 x13 x14 x15 : ℕ)
    → P (x0 ∷ x1 ∷ x2 ∷ x3 ∷ x4 ∷ x5 ∷ x6 ∷ x7 ∷ x8 ∷ x9 ∷ x10 ∷ x11 ∷ x12 ∷ x13 ∷ x14 ∷ x15 ∷ []))
    → (x : List ℕ) → length x ≡ 16 → P x
sixteen_lanes P p =
    first_lane 15 P (λ x0.
    first_lane 14 (λ (rest : List ℕ). P (x0 ∷ rest)) (λ x1.
    first_lane 13 (λ (rest : List ℕ). P (x0 ∷ x1 ∷ rest)) (λ x2.
    first_lane 12 (λ (rest : List ℕ). P (x0 ∷ x1 ∷ x2 ∷ rest)) (λ x3.
    first_lane 11 (λ (rest : List ℕ). P (x0 ∷ x1 ∷ x2 ∷ x3 ∷ rest)) (λ x4.
    first_lane 10 (λ (rest : List ℕ). P (x0 ∷ x1 ∷ x2 ∷ x3 ∷ x4 ∷ rest)) (λ x5.
    first_lane 9 (λ (rest : List ℕ). P (x0 ∷ x1 ∷ x2 ∷ x3 ∷ x4 ∷ x5 ∷ rest)) (λ x6.
    first_lane 8 (λ (rest : List ℕ). P (x0 ∷ x1 ∷ x2 ∷ x3 ∷ x4 ∷ x5 ∷ x6 ∷ rest)) (λ x7.
    first_lane 7 (λ (rest : List ℕ). P (x0 ∷ x1 ∷ x2 ∷ x3 ∷ x4 ∷ x5 ∷ x6 ∷ x7 ∷ rest)) (λ x8.
    first_lane 6 (λ (rest : List ℕ). P (x0 ∷ x1 ∷ x2 ∷ x3 ∷ x4 ∷ x5 ∷ x6 ∷ x7 ∷ x8 ∷ rest)) (λ x9.
    first_lane 5 (λ (rest : List ℕ). P (x0 ∷ x1 ∷ x2 ∷ x3 ∷ x4 ∷ x5 ∷ x6 ∷ x7 ∷ x8 ∷ x9 ∷ rest)) (λ x10.
    first_lane 4 (λ (rest : List ℕ). P (x0 ∷ x1 ∷ x2 ∷ x3 ∷ x4 ∷ x5 ∷ x6 ∷ x7 ∷ x8 ∷ x9 ∷ x10 ∷ rest)) (λ x11.
    first_lane 3 (λ (rest : List ℕ). P (x0 ∷ x1 ∷ x2 ∷ x3 ∷ x4 ∷ x5 ∷ x6 ∷ x7 ∷ x8 ∷ x9 ∷ x10 ∷ x11 ∷ rest)) (λ x12.
    first_lane 2 (λ (rest : List ℕ). P (x0 ∷ x1 ∷ x2 ∷ x3 ∷ x4 ∷ x5 ∷ x6 ∷ x7 ∷ x8 ∷ x9 ∷ x10 ∷ x11 ∷ x12 ∷ rest)) (λ x13.
    first_lane 1 (λ (rest : List ℕ). P (x0 ∷ x1 ∷ x2 ∷ x3 ∷ x4 ∷ x5 ∷ x6 ∷ x7 ∷ x8 ∷ x9 ∷ x10 ∷ x11 ∷ x12 ∷ x13 ∷ rest)) (λ x14.
    first_lane 0 (λ (rest : List ℕ). P (x0 ∷ x1 ∷ x2 ∷ x3 ∷ x4 ∷ x5 ∷ x6 ∷ x7 ∷ x8 ∷ x9 ∷ x10 ∷ x11 ∷ x12 ∷ x13 ∷ x14 ∷ rest)) (λ x15.
    no_lane (λ (rest : List ℕ). P (x0 ∷ x1 ∷ x2 ∷ x3 ∷ x4 ∷ x5 ∷ x6 ∷ x7 ∷ x8 ∷ x9 ∷ x10 ∷ x11 ∷ x12 ∷ x13 ∷ x14 ∷ x15 ∷ rest)) (p x0 x1 x2 x3 x4 x5 x6 x7 x8 x9 x10 x11 x12 x13 x14 x15)))))))))))))))))

-- two functions that agree at each byte give the same lanes
pub map-agreeing : {A : Type 0} (f g : ℕ → A) → ((b : ℕ) → b < 256 → f b ≡ g b) → (x : List ℕ) → Each1 (Fits w8) x → map f x ≡ map g x
map-agreeing f g e [] h = refl
map-agreeing f g e (b ∷ x) h = rw (e b h.0.fits, map-agreeing f g e x h.1) refl

-- SubBytes, byte by byte
pub map-sub_byte : (x : List ℕ) → length x ≡ 16 → map sub_byte x ≡ sub_bytes x
unfolding sub_bytes
map-sub_byte = sixteen_lanes (λ x. map sub_byte x ≡ sub_bytes x) (λ x0 x1 x2 x3 x4 x5 x6 x7 x8 x9 x10 x11 x12 x13 x14 x15. refl)

-- AddRoundKey, with the key as a block
pub xor-round_key : (words : List (List ℕ)) (round : ℕ) (x : List ℕ) → length x ≡ 16 → zip2 bit_xor x (round_key words round) ≡ add_round_key words round x
unfolding add_round_key round_key
xor-round_key words round = sixteen_lanes (λ x. zip2 bit_xor x (round_key words round) ≡ add_round_key words round x) (λ x0 x1 x2 x3 x4 x5 x6 x7 x8 x9 x10 x11 x12 x13 x14 x15. refl)

pub length-round_key : (words : List (List ℕ)) (round : ℕ) → length (round_key words round) ≡ 16
unfolding round_key
length-round_key words round = refl
