-- Sixteen words in four vectors of four.
use Rattle.std.specs.Prelude.{ℕ, List, [], ◌∷◌, slice_index}
use Rattle.four_words.specs.Inside.FourWords.{sixteen_words}
use Rattle.romix.specs.declared.lanes.Lanes.{Lanes}

-- the words where each vector has a row: 0 to 3, 4 to 7, 8 to 11, 12 to 15
abbrev pub words_by_rows : Lanes → List ℕ
words_by_rows x = sixteen_words x.first x.second x.third x.fourth

-- the words where each vector has a diagonal: 0 5 10 15, 4 9 14 3, 8 13 2 7, 12 1 6 11
abbrev pub words_by_diagonals : Lanes → List ℕ
words_by_diagonals x =
    slice_index x.first 0 ∷ slice_index x.fourth 1 ∷ slice_index x.third 2 ∷ slice_index x.second 3
    ∷ slice_index x.second 0 ∷ slice_index x.first 1 ∷ slice_index x.fourth 2 ∷ slice_index x.third 3
    ∷ slice_index x.third 0 ∷ slice_index x.second 1 ∷ slice_index x.first 2 ∷ slice_index x.fourth 3
    ∷ slice_index x.fourth 0 ∷ slice_index x.third 1 ∷ slice_index x.second 2 ∷ slice_index x.first 3 ∷ []
