-- What is planned for a segment with independent addressing (RFC 9106, 3.4.1.2 and 3.4.2).
use Rattle.std.specs.Prelude.{◌≡◌, ℕ, ◌+◌, ◌-◌, ◌*◌, ◌/◌, ◌%◌, ◌<◌, ◌≤◌, List, [], get_or, slice_index}
use Rattle.argon.specs.Argon2.{stored_block_by_j1_j2, is_xored_in, matrix_block, stored_block}
use Rattle.argon.specs.Buffer.{HoldsNewestBlocks, IsInSlice, block_held}
use Rattle.argon.specs.Compression.{compression}
use Rattle.argon.specs.Counts.{first_index}
use Rattle.argon.specs.Parameters.{Parameters, segment_len, lane_len}
use Rattle.argon.specs.Reference.{address_block, reference_lane, reference_number}
use Rattle.argon.specs.declared.places.Place.{Place}

-- the entry of a list of places
abbrev pub entry_at : List Place → ℕ → Place
entry_at places index = get_or places index (record { lane = 0; column = 0 })

-- the word J of a column: no block of the matrix stands in it (3.4.1.2)
abbrev pub independent_reference_word : Parameters → ℕ → ℕ → ℕ → ℕ → ℕ
independent_reference_word parameters pass lane slice index =
    slice_index (address_block parameters pass lane slice (index / 128 + 1)) (index % 128)

-- the place that the planned word of a column names: its lane, and its column in the lane (3.4.2)
abbrev pub independent_reference_place : Parameters → ℕ → ℕ → ℕ → ℕ → Place
independent_reference_place parameters pass lane slice index =
    let j = independent_reference_word parameters pass lane slice index in record {
      lane = reference_lane parameters pass lane slice j;
      column = reference_number parameters pass lane slice index j % lane_len parameters;
    }

-- for this H_0, the block of a column is G of the previous block and of the one that the planned
-- word names, with the old block xored in where `is_xored_in`: from the second pass on, and never in version 0x10
abbrev pub IsMadeAsPlanned : Parameters → List ℕ → ℕ → ℕ → ℕ → ℕ → Type 0
IsMadeAsPlanned parameters h0 pass lane slice index =
    let number = pass * lane_len parameters + (slice * segment_len parameters + index) in
    matrix_block parameters h0 number lane
    ≡ stored_block_by_j1_j2 parameters (matrix_block parameters h0) number pass lane slice index
    (independent_reference_word parameters pass lane slice index)

-- in every memory that holds the newest blocks of this H_0 while the lane stands at that column: its block is G of the
-- one before it and of the one that stands at the planned place, with the old block xored in where `is_xored_in`
abbrev pub IsMadeAlongPlan : Parameters → List ℕ → List (List ℕ) → (ℕ → ℕ) → ℕ → ℕ → ℕ → ℕ → Type 0
IsMadeAlongPlan parameters h0 blocks next pass lane slice index =
    let number = pass * lane_len parameters + (slice * segment_len parameters + index) in
    let place = independent_reference_place parameters pass lane slice index in
    HoldsNewestBlocks parameters h0 blocks next → IsInSlice parameters pass slice next → next lane ≡ number
    → matrix_block parameters h0 number lane
    ≡ stored_block (is_xored_in parameters pass) (block_held parameters blocks (number - lane_len parameters) lane)
    (compression (block_held parameters blocks (number - 1) lane)
    (get_or blocks (place.lane * lane_len parameters + place.column) []))

-- for every H_0 the columns of a segment that come from other blocks are made as planned
abbrev pub AreMadeAsPlanned : Parameters → ℕ → ℕ → ℕ → Type 0
AreMadeAsPlanned parameters pass lane slice =
    (h0 : List ℕ) (index : ℕ) → first_index pass slice ≤ index → index < segment_len parameters
    → IsMadeAsPlanned parameters h0 pass lane slice index

-- for every H_0 and in every memory these columns are made along the plan
abbrev pub AreMadeAlongPlan : Parameters → ℕ → ℕ → ℕ → Type 0
AreMadeAlongPlan parameters pass lane slice =
    (h0 : List ℕ) (blocks : List (List ℕ)) (next : ℕ → ℕ) (index : ℕ) → first_index pass slice ≤ index
    → index < segment_len parameters → IsMadeAlongPlan parameters h0 blocks next pass lane slice index
