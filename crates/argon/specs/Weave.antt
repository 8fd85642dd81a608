-- A weave, as contracts see it.
use Rattle.std.specs.Prelude.{◌≡◌, ℕ, ◌/◌, ◌%◌, ◌<◌, true, length, slice_index_or, []}
use Rattle.argon.specs.Reference.{HasAddresses}
pub use Rattle.argon.specs.SliceProgress.{SliceProgress}
use Rattle.argon.specs.SliceProgress.{IsSliceProgress, next_index_in_segment}
use Rattle.argon.specs.declared.weave.Weave.TheInside.{Inside}

-- what the fields of a weave say
abbrev pub slice_progress_of : Inside → SliceProgress
slice_progress_of weave = record {
  matrix = record {
    parameters = weave.params;
    is_started = true;
    first_hash = weave.h0;
    slices_made = weave.slices_made;
    blocks = weave.blocks.held.list.items;
  };
  left = weave.left.list.items;
}

-- what holds of the fields: beside the rest, each lane has the address block of its columns
pub record IsSliceProgressWithAddresses (weave : Inside) : Type 0 where
  pub weaving : IsSliceProgress (slice_progress_of weave)
  pub addresses_size : length weave.addresses.held.list.items ≡ weave.params.lanes
  pub addresses : (lane : ℕ) → lane < weave.params.lanes
      → HasAddresses weave.params (weave.slices_made / 4) lane (weave.slices_made % 4)
      (next_index_in_segment (slice_progress_of weave) lane) (slice_index_or weave.addresses.held.list.items lane [])
