-- Four lists of sixteen words side by side, as the compression function holds them.
use Rattle.std.specs.Prelude.{◌≡◌, ◌<◌, ℕ, List, [], ◌∷◌, ◌++◌, ◌+◌, ◌*◌, slice_index}
use Rattle.blake.specs.Words.{along, words_at, with_words_at}
use Rattle.four_words.specs.Inside.FourWords.{sixteen_words, shuffled_words}
use Rattle.argon.specs.Compression.{column_places, permutation, row_places}

-- sixteen words are made one by one: each by f of the word with its number in a vector, or in each of two
abbrev pub AreMadeOfWords : (ℕ → ℕ) → List ℕ → List ℕ → Type 0
AreMadeOfWords f words made = (number : ℕ) → number < 16 → slice_index made number ≡ f (slice_index words number)

abbrev pub AreMadeOfTwoWords : (ℕ → ℕ → ℕ) → List ℕ → List ℕ → List ℕ → Type 0
AreMadeOfTwoWords f a b made =
    (number : ℕ) → number < 16 → slice_index made number ≡ f (slice_index a number) (slice_index b number)

-- four vectors of sixteen words
abbrev pub FourLists : Type 0
FourLists = List ℕ × List ℕ × List ℕ × List ℕ

-- the words with the same number in each of the four vectors
abbrev pub word_of_each_vector : ℕ → FourLists → List ℕ
word_of_each_vector number x =
    slice_index x.0 number ∷ slice_index x.1 number ∷ slice_index x.2 number ∷ slice_index x.3 number ∷ []

-- the four words of a list in a vector, where lists stand side by side
abbrev pub list_words_in_vector : ℕ → List ℕ → List ℕ
list_words_in_vector list vector =
    shuffled_words vector (4 * list) (4 * list + 1) (4 * list + 2) (4 * list + 3)

-- one of the lists that stand side by side
abbrev pub list_at : ℕ → FourLists → List ℕ
list_at list x =
    sixteen_words (list_words_in_vector list x.0) (list_words_in_vector list x.1) (list_words_in_vector list x.2) (list_words_in_vector list x.3)

-- the words of each list in a vector, in the order of four numbers
abbrev pub each_list_reordered : List ℕ → ℕ → ℕ → ℕ → ℕ → List ℕ
each_list_reordered vector first second third fourth =
    shuffled_words vector first second third fourth
    ++ (shuffled_words vector (4 + first) (4 + second) (4 + third) (4 + fourth)
    ++ (shuffled_words vector (8 + first) (8 + second) (8 + third) (8 + fourth)
    ++ shuffled_words vector (12 + first) (12 + second) (12 + third) (12 + fourth)))

-- the vectors turned, so that the words of a diagonal of each list stand across them
abbrev pub turned_to_diagonals : FourLists → FourLists
turned_to_diagonals x = (x.0, each_list_reordered x.1 1 2 3 0, each_list_reordered x.2 2 3 0 1, each_list_reordered x.3 3 0 1 2)

-- the vectors turned back from `turned_to_diagonals`, so that the words of a column of each list stand across them
abbrev pub turned_to_columns : FourLists → FourLists
turned_to_columns x = (x.0, each_list_reordered x.1 3 0 1 2, each_list_reordered x.2 2 3 0 1, each_list_reordered x.3 1 2 3 0)

-- two places that stand together, and the two that stand sixteen places on
abbrev pub pair_places : ℕ → List ℕ
pair_places at = at ∷ (at + 1) ∷ (at + 16) ∷ (at + 17) ∷ []

-- a block whose row is that row of another block, permuted
abbrev pub with_row_permuted : List ℕ → List ℕ → ℕ → List ℕ
with_row_permuted from into row =
    with_words_at into (row_places row) (permutation (words_at from (row_places row)))

-- a block whose four rows from one on are those of another block, permuted
abbrev pub with_four_rows_permuted : List ℕ → List ℕ → ℕ → List ℕ
with_four_rows_permuted from into row =
    with_row_permuted from (with_row_permuted from (with_row_permuted from (with_row_permuted from
    into row) (row + 1)) (row + 2)) (row + 3)

-- a block whose four columns from one on are permuted
abbrev pub with_four_columns_permuted : List ℕ → ℕ → List ℕ
with_four_columns_permuted block column =
    along permutation (along permutation (along permutation (along permutation
    block (column_places column)) (column_places (column + 1))) (column_places (column + 2))) (column_places (column + 3))
