-- The memory as one flat buffer of blocks, lane after lane, in which later passes overwrite (RFC
-- 9106, 3.2).
use Rattle.std.specs.Prelude.{◌≡◌, ℕ, zero, suc, ◌+◌, ◌*◌, ◌%◌, ◌<◌, ◌≤◌, List, [], get_or}
use Rattle.argon.specs.Argon2.{matrix_block}
use Rattle.argon.specs.Parameters.{Parameters, segment_len, lane_len}

-- the block at the place of a lane's column with a number: later passes overwrite, so the place goes by the number
-- modulo q (3.2, steps 2 and 6)
abbrev pub block_held : Parameters → List (List ℕ) → ℕ → ℕ → List ℕ
block_held parameters blocks number lane =
    get_or blocks (lane * lane_len parameters + number % lane_len parameters) []

-- each lane has made the columns of the numbers below the one that comes next, and each place of
-- the buffer holds the newest of those that belong there
pub record HoldsNewestBlocks (parameters : Parameters) (h0 : List ℕ) (blocks : List (List ℕ)) (next : ℕ → ℕ) : Type 0 where
  pub holds : (lane number : ℕ) → lane < parameters.lanes → number < next lane → next lane ≤ number + lane_len parameters
      → block_held parameters blocks number lane ≡ matrix_block parameters h0 number lane

-- the number of the column that each lane makes next after so many slices: two columns are there from the start (3.2,
-- steps 3 and 4)
abbrev pub column_number_after_slices : Parameters → ℕ → ℕ
column_number_after_slices parameters zero = 2
column_number_after_slices parameters (suc count) = suc count * segment_len parameters

-- the numbers that come next belong to a slice, or to its end
pub record IsInSlice (parameters : Parameters) (pass slice : ℕ) (next : ℕ → ℕ) : Type 0 where
  pub from : (lane : ℕ) → lane < parameters.lanes
      → pass * lane_len parameters + slice * segment_len parameters ≤ next lane
  pub to : (lane : ℕ) → lane < parameters.lanes
      → next lane ≤ pass * lane_len parameters + slice * segment_len parameters + segment_len parameters
