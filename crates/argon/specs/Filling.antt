-- A matrix that is being filled, as contracts see it.
use Rattle.std.specs.Prelude.{◌≡◌, ℕ, ◌*◌, ◌/◌, ◌%◌, ◌<◌, ◌≤◌, Bool, true, ◌&&◌, nat_lt, List, length, Option, Some, None, false, if◌then◌else◌}
use Rattle.argon.specs.Buffer.{HoldsNewestBlocks, column_number_after_slices}
use Rattle.argon.specs.Parameters.{Parameters, block_count}
use Rattle.argon.specs.Range.{IsInRangeWithAnyPassword}

-- what contracts see of a matrix
pub record Filling : Type 0 where
  pub parameters : Parameters
  pub is_started : Bool
  -- H_0, once started
  pub first_hash : List ℕ
  -- how many slices of all passes are made
  pub slices_made : ℕ
  -- lane after lane
  pub blocks : List (List ℕ)

-- every place holds the newest version of its block, where one exists
abbrev pub IsNewest : Filling → Type 0
IsNewest filling =
    HoldsNewestBlocks filling.parameters filling.first_hash filling.blocks
    (λ _. column_number_after_slices filling.parameters filling.slices_made)

-- what holds of every matrix
pub record IsFilling (filling : Filling) : Type 0 where
  pub in_range : IsInRangeWithAnyPassword filling.parameters
  pub size : length filling.blocks ≡ block_count filling.parameters
  pub position : filling.slices_made ≤ 4 * filling.parameters.passes
  pub newest : filling.is_started ≡ true → IsNewest filling

-- a matrix that was not started, and has the blocks of these parameters
pub record IsUnstarted (parameters : Parameters) (filling : Filling) : Type 0 where
  pub size : length filling.blocks ≡ block_count parameters
  pub started : filling.is_started ≡ false

-- a slice is left to be made
pub record HasSliceLeft (filling : Filling) : Type 0 where
  pub started : filling.is_started ≡ true
  pub left : filling.slices_made < 4 * filling.parameters.passes

-- the pass and the slice that come next
abbrev pub next_slice : Filling → Option (ℕ × ℕ)
next_slice filling =
    if filling.is_started && nat_lt filling.slices_made (4 * filling.parameters.passes)
    then Some (filling.slices_made / 4, filling.slices_made % 4) else None

-- all slices are made
pub record IsDone (filling : Filling) : Type 0 where
  pub started : filling.is_started ≡ true
  pub all : filling.slices_made ≡ 4 * filling.parameters.passes
