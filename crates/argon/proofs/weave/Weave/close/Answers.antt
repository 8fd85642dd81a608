use Rattle.std.proofs.Common.{arith, rules}
use Rattle.argon.specs.Weave.{slice_progress_of}
use Rattle.argon.specs.SliceProgress.{HasNoBlocksLeft}
use Rattle.argon.proofs.SliceProgress.{closed}
use Rattle.argon.proofs.WorkLeft.{share_closed}
use Rattle.argon.proofs.Woven.{all_none, closed_woven}
use Rattle.argon.proofs.weave.Weave.close.Goals as goal

pub invariant_of-matrix : goal.invariant_of-matrix
invariant_of-matrix c =
    let weaving = c.self.invariant.weaving in
    let none_left : HasNoBlocksLeft (slice_progress_of c.self.inside) = rw c.self.view_is c.requires.none_left in
    record {
      in_range = weaving.in_range;
      size = weaving.size;
      position = let left = weaving.next.left in omega arith;
      newest = λ started. closed (slice_progress_of c.self.inside) weaving.newest none_left;
    }

pub invariant_of-lanes : goal.invariant_of-lanes
invariant_of-lanes c =
    let none_left : HasNoBlocksLeft (slice_progress_of c.self.inside) = rw c.self.view_is c.requires.none_left in
    let zeros = all_none c.self.inside.left.list.items c.self.inside.params.lanes c.self.invariant.weaving.lanes none_left.none in
    record { in_range = search rules; none_left = search (rules, zeros); addresses = search rules }

pub returns-clause-newest : goal.returns-clause-newest
returns-clause-newest c =
    let none_left : HasNoBlocksLeft (slice_progress_of c.self.inside) = rw c.self.view_is c.requires.none_left in
    closed (slice_progress_of c.self.inside) c.self.invariant.weaving.newest none_left

pub returns-clause-share : goal.returns-clause-share
returns-clause-share c =
    let none_left : HasNoBlocksLeft (slice_progress_of c.self.inside) = rw c.self.view_is c.requires.none_left in
    rw (← c.self.view_is) (share_closed (slice_progress_of c.self.inside) c.self.invariant.weaving none_left)

pub returns-clause-woven : goal.returns-clause-woven
returns-clause-woven c = λ matrix.
    let none_left : HasNoBlocksLeft (slice_progress_of c.self.inside) = rw c.self.view_is c.requires.none_left in
    rw (← c.self.view_is) (closed_woven matrix (slice_progress_of c.self.inside) c.self.invariant.weaving none_left)
