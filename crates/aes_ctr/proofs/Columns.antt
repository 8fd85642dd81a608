-- MixColumns column by column.
use Rattle.std.proofs.Common.{◌≡◌, ℕ, ◌<◌, List, [], ◌∷◌, ◌++◌, bit_xor, refl, w8, Fits, ◌∙◌}
use lib.Bits.{xor_assoc, xor_comm}
use lib.Lanes.{Each1}
use Rattle.aes_ctr.specs.Aes.{product}
use Rattle.aes_ctr.proofs.Bytes.{product-one, xor-product_two}

-- what f makes of each four elements
abbrev pub by_columns : (ℕ → ℕ → ℕ → ℕ → List ℕ) → List ℕ → List ℕ
by_columns f (a ∷ b ∷ c ∷ d ∷ x) = f a b c d ++ by_columns f x
by_columns f _ = []

-- two functions that agree on bytes make the same
pub by_columns-agreeing : (f g : ℕ → ℕ → ℕ → ℕ → List ℕ)
    → ((a b c d : ℕ) → a < 256 → b < 256 → c < 256 → d < 256 → f a b c d ≡ g a b c d)
    → (x : List ℕ) → Each1 (Fits w8) x → by_columns f x ≡ by_columns g x
by_columns-agreeing f g e (a ∷ b ∷ c ∷ d ∷ x) h =
    rw (e a b c d h.0.fits h.1.0.fits h.1.1.0.fits h.1.1.1.0.fits, by_columns-agreeing f g e x h.1.1.1.1) refl
by_columns-agreeing f g e (a ∷ b ∷ c ∷ []) h = refl
by_columns-agreeing f g e (a ∷ b ∷ []) h = refl
by_columns-agreeing f g e (a ∷ []) h = refl
by_columns-agreeing f g e [] h = refl

-- the product of the matrix and a column
abbrev pub matrix_column : ℕ → ℕ → ℕ → ℕ → List ℕ
matrix_column a b c d =
    bit_xor (bit_xor (product 2 a) (product 3 b)) (bit_xor (product 1 c) (product 1 d))
    ∷ bit_xor (bit_xor (product 1 a) (product 2 b)) (bit_xor (product 3 c) (product 1 d))
    ∷ bit_xor (bit_xor (product 1 a) (product 1 b)) (bit_xor (product 2 c) (product 3 d))
    ∷ bit_xor (bit_xor (product 3 a) (product 1 b)) (bit_xor (product 1 c) (product 2 d)) ∷ []

-- the same from doubles
abbrev pub doubles_column : ℕ → ℕ → ℕ → ℕ → List ℕ
doubles_column a b c d =
    bit_xor (bit_xor (product 2 a) (bit_xor b (product 2 b))) (bit_xor c d)
    ∷ bit_xor (bit_xor (product 2 b) (bit_xor c (product 2 c))) (bit_xor d a)
    ∷ bit_xor (bit_xor (product 2 c) (bit_xor d (product 2 d))) (bit_xor a b)
    ∷ bit_xor (bit_xor (product 2 d) (bit_xor a (product 2 a))) (bit_xor b c) ∷ []

-- four terms, turned by one place
xor-turned : (p q r s : ℕ) → bit_xor (bit_xor p q) (bit_xor r s) ≡ bit_xor (bit_xor s p) (bit_xor q r)
xor-turned p q r s =
    rw (xor_comm r s, ← xor_assoc (bit_xor p q) s r, xor_comm (bit_xor p q) s, ← xor_assoc s p q, xor_assoc (bit_xor s p) q r) refl

pub doubles_column-is : (a b c d : ℕ) → a < 256 → b < 256 → c < 256 → d < 256 → doubles_column a b c d ≡ matrix_column a b c d
doubles_column-is a b c d ha hb hc hd =
    rw (xor-product_two a ha, xor-product_two b hb, xor-product_two c hc, xor-product_two d hd, product-one a ha, product-one b hb, product-one c hc, product-one d hd)
    (rw (xor-turned (product 2 b) (product 3 c) d a, xor_comm (bit_xor (product 2 c) (product 3 d)) (bit_xor a b), third_turn) refl)
  where
    third_turn : bit_xor (bit_xor (product 2 d) (product 3 a)) (bit_xor b c) ≡ bit_xor (bit_xor (product 3 a) b) (bit_xor c (product 2 d))
    third_turn = xor-turned (product 2 d) (product 3 a) b c ∙ xor-turned c (product 2 d) (product 3 a) b ∙ xor-turned b c (product 2 d) (product 3 a)
