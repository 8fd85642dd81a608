-- What lanes hold beside the matrix, as contracts see it.
use Rattle.std.specs.Prelude.{◌≡◌, replicate, vec_len}
use Rattle.argon.specs.Range.{IsInRangeWithAnyPassword}
use Rattle.argon.specs.declared.lanes.Lanes.TheInside.{Inside}

-- there is an entry for each lane, and no lane has any block left to make: the numbers, which are freed as they are,
-- are all 0
pub record AreLanesWithNoBlocksLeft (lanes : Inside) : Type 0 where
  pub in_range : IsInRangeWithAnyPassword lanes.params
  pub none_left : lanes.left.list.items ≡ replicate lanes.params.lanes 0
  pub addresses : vec_len lanes.addresses.held.list ≡ lanes.params.lanes
