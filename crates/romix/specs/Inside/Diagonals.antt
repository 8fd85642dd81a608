-- Rows whose blocks stand in the order of the diagonals: word k of a block at place 5 * k modulo 16.
use Rattle.std.specs.Prelude.{ℕ, zero, suc, ◌/◌, List, [], ◌∷◌, ◌++◌, length, take, drop, slice_index}

-- a block in the standard's order, of one in the order of the diagonals
abbrev pub block_in_standard_order : List ℕ → List ℕ
block_in_standard_order w =
    slice_index w 0 ∷ slice_index w 13 ∷ slice_index w 10 ∷ slice_index w 7
    ∷ slice_index w 4 ∷ slice_index w 1 ∷ slice_index w 14 ∷ slice_index w 11
    ∷ slice_index w 8 ∷ slice_index w 5 ∷ slice_index w 2 ∷ slice_index w 15
    ∷ slice_index w 12 ∷ slice_index w 9 ∷ slice_index w 6 ∷ slice_index w 3 ∷ []

-- the first n blocks of a row in the order of the diagonals, each in the standard's order
unfoldable pub blocks_in_standard_order : ℕ → List ℕ → List ℕ
blocks_in_standard_order zero w = []
blocks_in_standard_order (suc n) w = block_in_standard_order (take 16 w) ++ blocks_in_standard_order n (drop 16 w)

-- a row in the order of the diagonals, with each block in the standard's order
abbrev pub row_in_standard_order : List ℕ → List ℕ
row_in_standard_order w = blocks_in_standard_order (length w / 16) w
