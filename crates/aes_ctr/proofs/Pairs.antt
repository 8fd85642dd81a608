-- Two blocks, one after the other.
use Rattle.std.proofs.Common.{◌≡◌, ℕ, ◌<◌, List, [], ◌∷◌, ◌++◌, ap, arith, drop, length, length-append, length-drop, refl, sym, take, take-append-drop, ◌∙◌}
use lib.Lanes.{Each1, zip2}
use Rattle.std.specs.Int.{bit_at}
use Rattle.std.proofs.lemmas.List.{length-map, length-take-le, map-append}
use Rattle.aes_ctr.specs.Planes.{IsAesBlock, bits}
use Rattle.aes_ctr.specs.Inside.PlaneSteps.{IsBlockPair, applied_to_both_blocks}
use Rattle.aes_ctr.proofs.Sixteen.{sixteen_lanes}

-- what holds of each two lists of sixteen elements, of a list of thirty-two
pub two_blocks : (P : List ℕ → Type 0) → ((x y : List ℕ) → length x ≡ 16 → length y ≡ 16 → P (x ++ y))
    → (x : List ℕ) → length x ≡ 32 → P x
two_blocks P p x long =
    rw (take-append-drop 16 x) at (p (take 16 x) (drop 16 x) (length-take-le 16 x (omega (arith, long))) (omega (arith, long, length-drop 16 x)))

pub thirty_two_lanes : (P : List ℕ → Type 0)
    → ((x0 x1 x2 x3 x4 x5 x6 x7 x8 x9 x10 x11 x12 x13 x14 x15 y0 y1 y2 y3 y4 y5 y6 y7 y8 y9 y10 y11 y12 y13 y14 y15 : ℕ)
    → P (x0 ∷ x1 ∷ x2 ∷ x3 ∷ x4 ∷ x5 ∷ x6 ∷ x7 ∷ x8 ∷ x9 ∷ x10 ∷ x11 ∷ x12 ∷ x13 ∷ x14 ∷ x15 ∷ y0 ∷ y1 ∷ y2 ∷ y3 ∷ y4 ∷ y5 ∷ y6 ∷ y7 ∷ y8 ∷ y9 ∷ y10 ∷ y11 ∷ y12 ∷ y13 ∷ y14 ∷ y15 ∷ []))
    → (x : List ℕ) → length x ≡ 32 → P x
thirty_two_lanes P p =
    two_blocks P (λ x y hx hy. sixteen_lanes (λ x. P (x ++ y))
    (λ x0 x1 x2 x3 x4 x5 x6 x7 x8 x9 x10 x11 x12 x13 x14 x15. sixteen_lanes (λ y. P (x0 ∷ x1 ∷ x2 ∷ x3 ∷ x4 ∷ x5 ∷ x6 ∷ x7 ∷ x8 ∷ x9 ∷ x10 ∷ x11 ∷ x12 ∷ x13 ∷ x14 ∷ x15 ∷ y))
    (λ y0 y1 y2 y3 y4 y5 y6 y7 y8 y9 y10 y11 y12 y13 y14 y15. p x0 x1 x2 x3 x4 x5 x6 x7 x8 x9 x10 x11 x12 x13 x14 x15 y0 y1 y2 y3 y4 y5 y6 y7 y8 y9 y10 y11 y12 y13 y14 y15) y hy) x hx)

pub applied_to_both_blocks-append : (f : List ℕ → List ℕ) (x y : List ℕ) → length x ≡ 16 → applied_to_both_blocks f (x ++ y) ≡ f x ++ f y
applied_to_both_blocks-append f x y = sixteen_lanes (λ x. applied_to_both_blocks f (x ++ y) ≡ f x ++ f y) (λ x0 x1 x2 x3 x4 x5 x6 x7 x8 x9 x10 x11 x12 x13 x14 x15. refl) x

pub zip2-append : (f : ℕ → ℕ → ℕ) (a b c d : List ℕ) → length a ≡ length c → zip2 f (a ++ b) (c ++ d) ≡ zip2 f a c ++ zip2 f b d
zip2-append f [] b [] d h = refl
zip2-append f [] b (z ∷ c) d h = absurd (omega arith)
zip2-append f (x ∷ a) b [] d h = absurd (omega arith)
zip2-append f (x ∷ a) b (z ∷ c) d h = ap (λ l. f x z ∷ l) (zip2-append f a b c d (omega arith))

Each1-append : (P : ℕ → Type 0) (x y : List ℕ) → Each1 P x → Each1 P y → Each1 P (x ++ y)
Each1-append P [] y h i = i
Each1-append P (a ∷ x) y h i = (h.0, Each1-append P x y h.1 i)

Each1-parts : (P : ℕ → Type 0) (x y : List ℕ) → Each1 P (x ++ y) → Each1 P x × Each1 P y
Each1-parts P [] y h = (tt, h)
Each1-parts P (a ∷ x) y h =
    let rest = Each1-parts P x y h.1 in
    ((h.0, rest.0), rest.1)

pub IsBlockPair-append : (x y : List ℕ) → IsAesBlock x → IsAesBlock y → IsBlockPair (x ++ y)
IsBlockPair-append x y ok also =
    (omega (arith, length-append x y, ok.0, also.0), Each1-append (λ byte. byte < 256) x y ok.1 also.1)

pub IsBlockPair-parts : (x : List ℕ) → IsBlockPair x → IsAesBlock (take 16 x) × IsAesBlock (drop 16 x)
IsBlockPair-parts x ok =
    let parts = Each1-parts (λ byte. byte < 256) (take 16 x) (drop 16 x) (rw (take-append-drop 16 x) ok.1) in
    ((length-take-le 16 x (omega (arith, ok.0)), parts.0), (omega (arith, ok.0, length-drop 16 x), parts.1))

-- bits that are taken to other places within each block
pub bits-applied_to_both_blocks : (f : List ℕ → List ℕ) → ((i : ℕ) (x : List ℕ) → length x ≡ 16 → bits i (f x) ≡ f (bits i x))
    → (i : ℕ) (x : List ℕ) → length x ≡ 32 → bits i (applied_to_both_blocks f x) ≡ applied_to_both_blocks f (bits i x)
bits-applied_to_both_blocks f e i =
    two_blocks (λ x. bits i (applied_to_both_blocks f x) ≡ applied_to_both_blocks f (bits i x)) (λ x y hx hy.
    ap (bits i) (applied_to_both_blocks-append f x y hx) ∙ map-append (λ a. bit_at a i) (f x) (f y)
    ∙ rw (e i x hx, e i y hy) (sym (applied_to_both_blocks-append f (bits i x) (bits i y) (length-map x (λ a. bit_at a i) ∙ hx)))
    ∙ ap (applied_to_both_blocks f) (sym (map-append (λ a. bit_at a i) x y)))
