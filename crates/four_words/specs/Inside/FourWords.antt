-- Sixteen words in four vectors of four.
use Rattle.std.specs.Prelude.{ℕ, List, [], ◌∷◌, slice_index}

-- the words of a vector, in the order of four numbers
abbrev pub shuffled_words : List ℕ → ℕ → ℕ → ℕ → ℕ → List ℕ
shuffled_words vector first second third fourth =
    slice_index vector first ∷ slice_index vector second ∷ slice_index vector third ∷ slice_index vector fourth ∷ []

-- the words of a vector, written out
abbrev pub four_words : List ℕ → List ℕ
four_words vector = shuffled_words vector 0 1 2 3

-- the words of four vectors, one vector after another, written out
abbrev pub sixteen_words : List ℕ → List ℕ → List ℕ → List ℕ → List ℕ
sixteen_words a b c d =
    slice_index a 0 ∷ slice_index a 1 ∷ slice_index a 2 ∷ slice_index a 3
    ∷ slice_index b 0 ∷ slice_index b 1 ∷ slice_index b 2 ∷ slice_index b 3
    ∷ slice_index c 0 ∷ slice_index c 1 ∷ slice_index c 2 ∷ slice_index c 3
    ∷ slice_index d 0 ∷ slice_index d 1 ∷ slice_index d 2 ∷ slice_index d 3 ∷ []
