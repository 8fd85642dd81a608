-- Which block a block takes in beside the previous one (RFC 9106, 3.4).
--
-- The columns of a lane are numbered in the order in which they are made: column c of pass r has
-- the number r * q + c. A number comes once, where a column comes once in each pass.
use Rattle.std.specs.Prelude.{◌≡◌, ◌≢◌, ℕ, zero, suc, ◌+◌, ◌-◌, ◌*◌, ◌/◌, ◌%◌, ◌^◌, Bool, true, false, ◌&&◌, ◌||◌, nat_eq, nat_lt, List, [], ◌∷◌, ◌++◌, length, take, replicate, slice_index, if◌then◌else◌}
use Rattle.std.specs.List.{range_with_len}
use Rattle.argon.specs.Compression.{compression, zero_block}
use Rattle.argon.specs.Parameters.{Parameters, segment_len, lane_len, block_count}

-- whether J_1 and J_2 come from the position alone: always in Argon2i (3.4.1.2), never in Argon2d (3.4.1.1), and in
-- Argon2id in the first two slices of the first pass (3.4.1.3)
abbrev pub is_independent : Parameters → ℕ → ℕ → Bool
is_independent parameters pass slice =
    nat_eq parameters.kind 1 || (nat_eq parameters.kind 2 && (nat_eq pass 0 && nat_lt slice 2))

-- Z || LE64(counter) || ZERO(968), of which the address block with this counter is made, as 128 words (3.4.1.2)
abbrev pub address_input : Parameters → ℕ → ℕ → ℕ → ℕ → List ℕ
address_input parameters pass lane slice counter =
    pass ∷ lane ∷ slice ∷ block_count parameters ∷ parameters.passes ∷ parameters.kind ∷ counter ∷ replicate 121 0

-- the block of 128 words J with this counter, counted from 1: G(ZERO(1024), G(ZERO(1024), Z || LE64(counter) ||
-- ZERO(968))) (3.4.1.2)
unfoldable pub address_block : Parameters → ℕ → ℕ → ℕ → ℕ → List ℕ
address_block parameters pass lane slice counter =
    compression zero_block (compression zero_block (address_input parameters pass lane slice counter))

-- the address block stands that has the word J of the column before an index, or the first one at index 0, where J_1
-- and J_2 come from the position alone (3.4.1.2)
abbrev pub HasAddresses : Parameters → ℕ → ℕ → ℕ → ℕ → List ℕ → Type 0
HasAddresses parameters pass lane slice index addresses =
    is_independent parameters pass slice ≡ true
    → addresses ≡ address_block parameters pass lane slice ((index - 1) / 128 + 1)

-- J, one word whose low half is J_1 and whose high half is J_2: where they come from the position alone, the word of
-- the address block of 128 columns in which the index falls (3.4.1.2), and else the first word of the block before
-- (3.4.1.1)
abbrev pub j1_j2_by_addressing : Bool → Parameters → ℕ → ℕ → ℕ → ℕ → List ℕ → ℕ
j1_j2_by_addressing true parameters pass lane slice index previous =
    slice_index (address_block parameters pass lane slice (index / 128 + 1)) (index % 128)
j1_j2_by_addressing false parameters pass lane slice index previous = slice_index previous 0

-- J, one word whose low half is J_1 and whose high half is J_2, of a column at a place, by the block before it: in
-- Argon2d by 3.4.1.1, in Argon2i by 3.4.1.2, in Argon2id by the one or the other as 3.4.1.3 says
unfoldable pub reference_words : Parameters → ℕ → ℕ → ℕ → ℕ → List ℕ → ℕ
reference_words parameters pass lane slice index previous =
    j1_j2_by_addressing (is_independent parameters pass slice) parameters pass lane slice index previous

-- l = J_2 mod p, the lane of the reference; in the first slice of the first pass it is the lane of the block itself
-- (3.4.2)
abbrev pub reference_lane : Parameters → ℕ → ℕ → ℕ → ℕ → ℕ
reference_lane parameters pass lane slice j =
    if nat_eq pass 0 && nat_eq slice 0 then lane else j / 2 ^ 32 % parameters.lanes

-- the numbers of the columns `from`, `from` + 1, .. up to but without `to` of a pass, by the length of a segment:
-- column c of pass r has the number r * q + c, and q is 4 * segment
abbrev pub column_numbers_in_range : ℕ → ℕ → ℕ → ℕ → List ℕ
column_numbers_in_range segment pass from to = range_with_len (pass * (4 * segment) + from) (to - from)

-- the numbers of the columns of the slices after this one, which the pass before has made; none in the first pass
-- (3.4.2)
abbrev pub columns_of_later_slices : ℕ → ℕ → ℕ → List ℕ
columns_of_later_slices segment zero slice = []
columns_of_later_slices segment (suc before) slice = column_numbers_in_range segment before ((slice + 1) * segment) (4 * segment)

-- the numbers of the columns of a lane from which W is taken, in the order in which they were made: those of its last
-- three finished segments, or of as many as the first pass has finished, and, if it is the lane of the block, those
-- of this segment that come before the block (3.4.2)
abbrev pub candidate_columns : ℕ → ℕ → ℕ → ℕ → Bool → List ℕ
candidate_columns segment pass slice index is_own =
    columns_of_later_slices segment pass slice ++ column_numbers_in_range segment pass 0 (slice * segment)
    ++ column_numbers_in_range segment pass (slice * segment) (slice * segment + (if is_own then index else 0))

-- W, as the numbers of columns of a lane: `candidate_columns`, without its last one where the lane is that of the
-- block, since that is the block before it, or where the block is the first of its segment; where both hold, one is
-- left out (3.4.2)
abbrev pub reference_set : ℕ → ℕ → ℕ → ℕ → Bool → List ℕ
reference_set segment pass slice index is_own =
    let columns = candidate_columns segment pass slice index is_own in
    if is_own || nat_eq index 0 then take (length columns - 1) columns else columns

-- zz, the place that J_1 names in a set W of so many: |W| - 1 - y, with y = |W| * x / 2^32 and x = J_1^2 / 2^32
-- (3.4.2)
abbrev pub relative_place : ℕ → ℕ → ℕ
relative_place len j1 = len - 1 - len * (j1 * j1 / 2 ^ 32) / 2 ^ 32

-- z, as the number of the column that J names: the one that stands in W at the place zz (3.4.2)
unfoldable pub reference_number : Parameters → ℕ → ℕ → ℕ → ℕ → ℕ → ℕ
reference_number parameters pass lane slice index j =
    let is_own = nat_eq (reference_lane parameters pass lane slice j) lane in
    let columns = reference_set (segment_len parameters) pass slice index is_own in
    slice_index columns (relative_place (length columns) (j % 2 ^ 32))

-- whatever word J a column has, what it names in another lane stands in a finished segment, and not in the one that
-- is being made (3.4.2)
abbrev pub ReadsFinishedSegments : Parameters → ℕ → ℕ → ℕ → ℕ → Type 0
ReadsFinishedSegments parameters pass lane slice index =
    (j : ℕ) → reference_lane parameters pass lane slice j ≢ lane
    → reference_number parameters pass lane slice index j % lane_len parameters / segment_len parameters ≢ slice
