-- What is planned of a segment so far (RFC 9106, 3.4.1.2 and 3.4.2).
use Rattle.std.specs.Prelude.{◌≡◌, ℕ, ◌%◌, ◌<◌, ◌≤◌, true, List, length, slice_index}
use Rattle.argon.specs.Counts.{first_index}
use Rattle.argon.specs.Parameters.{Parameters, segment_len}
use Rattle.argon.specs.Plan.{AreMadeAlongPlan, AreMadeAsPlanned, entry_at, independent_reference_place}
use Rattle.argon.specs.Reference.{is_independent}
use Rattle.argon.specs.Inside.Segment.{place_by_word}
use Rattle.argon.specs.declared.places.Place.{Place}
use Rattle.argon.specs.declared.segment.Segment.{Segment}

-- the place that the planned word of a column names, by the segment and its address block (3.4.2)
abbrev pub reference_place_by_segment : Segment → ℕ → List ℕ → Place
reference_place_by_segment segment index addresses = place_by_word segment index (slice_index addresses (index % 128))

-- a part of a segment is planned, and what was before it stays
pub record PlansPartOfReferences (segment : Segment) (addresses : List ℕ) (old new : List Place) (from to : ℕ) : Type 0 where
  pub planned : (index : ℕ) → from ≤ index → index < to → entry_at new index ≡ reference_place_by_segment segment index addresses
  pub before : (index : ℕ) → index < from → entry_at new index ≡ entry_at old index

-- the first columns of a segment are planned, and those that come from H_0 stay
pub record AreReferencesPlanned (parameters : Parameters) (segment : Segment) (old new : List Place) (to : ℕ) : Type 0 where
  pub planned : (index : ℕ) → first_index segment.pass segment.slice ≤ index → index < to
      → entry_at new index ≡ independent_reference_place parameters segment.pass segment.lane segment.slice index
  pub kept : (index : ℕ) → index < first_index segment.pass segment.slice → entry_at new index ≡ entry_at old index

-- a segment whose words J come from its position alone, and a list with a place for each of its columns
pub record CanBePlanned (parameters : Parameters) (pass lane slice : ℕ) (places : List Place) : Type 0 where
  pub passes : pass < parameters.passes
  pub lanes : lane < parameters.lanes
  pub slices : slice < 4
  pub independent : is_independent parameters pass slice ≡ true
  pub size : length places ≡ segment_len parameters

-- the columns of a segment are made as planned, and along the plan in every memory
pub record AreMadeByPlan (parameters : Parameters) (pass lane slice : ℕ) : Type 0 where
  pub made : AreMadeAsPlanned parameters pass lane slice
  pub along : AreMadeAlongPlan parameters pass lane slice
