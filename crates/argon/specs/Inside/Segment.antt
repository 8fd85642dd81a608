-- A segment, against the parameters that it belongs to (RFC 9106, 3.4).
use Rattle.std.specs.Prelude.{◌≡◌, ℕ, ◌+◌, ◌*◌, ◌/◌, ◌%◌, ◌^◌, ◌<◌, ◌≤◌, ◌&&◌, List, length, min, max, slice_index, slice_set, nat_eq, if◌then◌else◌}
use Rattle.argon.specs.Argon2.{block_at, is_xored_in}
use Rattle.argon.specs.Buffer.{block_held}
use Rattle.argon.specs.Counts.{first_index}
use Rattle.argon.specs.Parameters.{Parameters, segment_len}
use Rattle.argon.specs.Reference.{HasAddresses, is_independent, reference_set, relative_place}
use Rattle.argon.specs.declared.places.Place.{Place}
use Rattle.argon.specs.declared.segment.Segment.{Segment}

-- the bounds that hold of each segment
pub record IsInMatrix (segment : Segment) : Type 0 where
  pub long : 2 ≤ segment.len
  pub short : segment.lanes * (4 * segment.len) < 2 ^ 32
  pub slices : segment.slice < 4
  pub lane : segment.lane < segment.lanes

-- the segment is one of those parameters
pub record IsSegmentOfParameters (parameters : Parameters) (segment : Segment) : Type 0 where
  pub lanes : parameters.lanes ≡ segment.lanes
  pub len : segment_len parameters ≡ segment.len
  pub independent : is_independent parameters segment.pass segment.slice ≡ segment.is_independent
  pub xored : is_xored_in parameters segment.pass ≡ segment.is_xored

-- the blocks are those of the whole matrix that the segment stands in
abbrev pub AreOfMatrix : Segment → List (List ℕ) → Type 0
AreOfMatrix segment blocks = length blocks ≡ segment.lanes * (4 * segment.len)

-- the segment has a column of that index, which comes from other blocks
pub record IsColumnToMake (segment : Segment) (index : ℕ) : Type 0 where
  pub valid : IsInMatrix segment
  pub indices : index < segment.len
  pub first : first_index segment.pass segment.slice ≤ index

-- a lane and a column of the matrix that the segment stands in
pub record IsInSameMatrix (segment : Segment) (lane column : ℕ) : Type 0 where
  pub valid : IsInMatrix segment
  pub lanes : lane < segment.lanes
  pub columns : column < 4 * segment.len

-- where the block of a lane and a column stands in the buffer of that matrix, which has the lanes one after the other
pub record StandsAt (segment : Segment) (lane column place : ℕ) : Type 0 where
  pub value : place ≡ lane * (4 * segment.len) + column
  pub within : place < segment.lanes * (4 * segment.len)

-- the number of the column with an index in the segment
abbrev pub column_number : Segment → ℕ → ℕ
column_number segment index = segment.pass * (4 * segment.len) + (segment.slice * segment.len + index)

-- the address block of the segment stands that has the word J of its column before an index, or its first one at index 0,
-- where its words J come from the position alone
abbrev pub HasAddressesOfSegment : Parameters → Segment → ℕ → List ℕ → Type 0
HasAddressesOfSegment parameters segment index addresses =
    HasAddresses parameters segment.pass segment.lane segment.slice index addresses

-- the blocks, of which that of the column with an index in the segment is made from the others
abbrev pub with_column_made : Parameters → Segment → ℕ → List (List ℕ) → List (List ℕ)
with_column_made parameters segment index blocks =
    slice_set blocks (segment.lane * (4 * segment.len) + (segment.slice * segment.len + index))
    (block_at parameters (block_held parameters blocks) (column_number segment index)
    segment.pass segment.lane segment.slice index)

-- the index up to which a segment is made after so many parts of 128 columns
abbrev pub index_in_segment_after_parts : Segment → ℕ → ℕ
index_in_segment_after_parts segment parts = max (first_index segment.pass segment.slice) (min (128 * parts) segment.len)

-- the place that the word J of a column names, by the numbers of the segment (3.4.2)
abbrev pub place_by_word : Segment → ℕ → ℕ → Place
place_by_word segment index j =
    let lane = if nat_eq segment.pass 0 && nat_eq segment.slice 0 then segment.lane else j / 2 ^ 32 % segment.lanes in
    let columns = reference_set segment.len segment.pass segment.slice index (nat_eq lane segment.lane) in record {
      lane = lane;
      column = slice_index columns (relative_place (length columns) (j % 2 ^ 32)) % (4 * segment.len);
    }
