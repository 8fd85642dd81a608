-- Vectors of four words, lane by lane.
use Rattle.std.proofs.Common.{◌≡◌, ℕ, zero, suc, ◌<◌, List, [], ◌∷◌, ◌++◌, length, refl, arith}
use Rattle.four_words.specs.Inside.FourWords.{four_words, sixteen_words}

-- what holds of each of the four numbers
pub below_four : (P : ℕ → Type 0) → P 0 → P 1 → P 2 → P 3 → (j : ℕ) → j < 4 → P j
below_four P p0 p1 p2 p3 zero h = p0
below_four P p0 p1 p2 p3 (suc zero) h = p1
below_four P p0 p1 p2 p3 (suc (suc zero)) h = p2
below_four P p0 p1 p2 p3 (suc (suc (suc zero))) h = p3
below_four P p0 p1 p2 p3 (suc (suc (suc (suc n)))) h = absurd (omega arith)

-- what holds of each list of four
pub each_of_four : (P : List ℕ → Type 0) → ((a b c d : ℕ) → P (a ∷ b ∷ c ∷ d ∷ [])) → (xs : List ℕ) → length xs ≡ 4 → P xs
each_of_four P p (a ∷ b ∷ c ∷ d ∷ []) h = p a b c d
each_of_four P p [] h = absurd (omega arith)
each_of_four P p (a ∷ []) h = absurd (omega arith)
each_of_four P p (a ∷ b ∷ []) h = absurd (omega arith)
each_of_four P p (a ∷ b ∷ c ∷ []) h = absurd (omega arith)
each_of_four P p (a ∷ b ∷ c ∷ d ∷ e ∷ xs) h = absurd (omega arith)

-- a vector is its words
pub four_are : (v : List ℕ) → length v ≡ 4 → four_words v ≡ v
four_are = each_of_four (λ v. four_words v ≡ v) (λ a b c d. refl)

-- four vectors are these words
pub sixteen_are : (a b c d : List ℕ) → length a ≡ 4 → length b ≡ 4 → length c ≡ 4 → length d ≡ 4 → sixteen_words a b c d ≡ a ++ (b ++ (c ++ d))
sixteen_are a b c d ha hb hc hd =
    each_of_four (λ a. sixteen_words a b c d ≡ a ++ (b ++ (c ++ d))) (λ a0 a1 a2 a3.
    each_of_four (λ b. sixteen_words (a0 ∷ a1 ∷ a2 ∷ a3 ∷ []) b c d ≡ a0 ∷ a1 ∷ a2 ∷ a3 ∷ (b ++ (c ++ d))) (λ b0 b1 b2 b3.
    each_of_four (λ c. sixteen_words (a0 ∷ a1 ∷ a2 ∷ a3 ∷ []) (b0 ∷ b1 ∷ b2 ∷ b3 ∷ []) c d ≡ a0 ∷ a1 ∷ a2 ∷ a3 ∷ b0 ∷ b1 ∷ b2 ∷ b3 ∷ (c ++ d)) (λ c0 c1 c2 c3.
    each_of_four (λ d. sixteen_words (a0 ∷ a1 ∷ a2 ∷ a3 ∷ []) (b0 ∷ b1 ∷ b2 ∷ b3 ∷ []) (c0 ∷ c1 ∷ c2 ∷ c3 ∷ []) d ≡ a0 ∷ a1 ∷ a2 ∷ a3 ∷ b0 ∷ b1 ∷ b2 ∷ b3 ∷ c0 ∷ c1 ∷ c2 ∷ c3 ∷ d) (λ d0 d1 d2 d3. refl) d hd) c hc) b hb) a ha
