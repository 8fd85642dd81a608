-- A flat table of rows of one length.
use Rattle.std.specs.Prelude.{◌≡◌, ℕ, ◌*◌, ◌/◌, ◌%◌, ◌<◌, List, take, drop, length}

-- row i of a table whose rows have len words
abbrev pub row_at : List ℕ → ℕ → ℕ → List ℕ
row_at table len i = take len (drop (len * i) table)

-- row i of a table whose rows have len words became this one, and the rows below it stay
pub record StoresRow (len i : ℕ) (row before after : List ℕ) : Type 0 where
  pub here : row_at after len i ≡ row
  pub below : (k : ℕ) → k < i → row_at after len k ≡ row_at before len k

-- a table that keeps the rows of V whose number S divides got this row as row i of V, if it is one of these, and its rows
-- for those below it stay
pub record KeepsRow (keep i : ℕ) (row before after : List ℕ) : Type 0 where
  pub kept : i % keep ≡ 0 → row_at after (length row) (i / keep) ≡ row
  pub below : (k : ℕ) → keep * k < i → row_at after (length row) k ≡ row_at before (length row) k
