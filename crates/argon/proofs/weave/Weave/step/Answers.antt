use Rattle.std.proofs.Common.{◌≡◌, ℕ, ◌-◌, ◌<◌, true, List, length, set, slice_index, ap, ◌∙◌, arith, length-set}
use Rattle.std.specs.Vec.{with_items}
use Rattle.std.proofs.lemmas.List.{with_items_is}
use Rattle.argon.specs.Weave.{slice_progress_of}
use Rattle.argon.specs.SliceProgress.{SliceProgress, with_next_block}
use Rattle.argon.proofs.SliceProgress.{addresses_stepped, step_reads_finished, stepped, weaving_after}
use Rattle.argon.proofs.WorkLeft.{share_stepped}
use Rattle.argon.proofs.Woven.{stepped_woven}
use Rattle.argon.proofs.weave.Weave.step.Goals as goal

pub invariant_of-self : goal.invariant_of-self
invariant_of-self c =
    let weave = c.self.inside in
    let w : SliceProgress = slice_progress_of c.self.inside in
    let lane = c.args.lane in
    let some : 0 < slice_index c.self.inside.left.list.items c.args.lane = rw (ap (λ (v : SliceProgress). v.left) c.self.view_is) c.requires.left in
    let at = c.new-segment.result in
    let place = c.new-segment.ensures in
    let kept : length c.fill_next_block.new.blocks ≡ c.self.inside.blocks.held.list.len = omega (arith, c.fill_next_block.auto.blocks, c.blocks_mut.ensures.len) in
    let made : (with_items c.self.inside.blocks.held.list c.fill_next_block.new.blocks).items ≡ with_next_block (slice_progress_of c.self.inside) c.args.lane =
    with_items_is weave.blocks.held.list c.fill_next_block.new.blocks kept
    ∙ stepped w lane c.blocks_mut.result.now c.fill_next_block.new.blocks at.len at.lane at.pass at.slice c.at.result c.self.invariant.weaving some
    c.blocks_mut.ensures.value c.new-segment.ensures.is_of.len place.lane place.pass place.slice c.at.ensures.value
    c.fill_next_block.ensures.value in
    let fewer : c.take_one.new.self.list.items
    ≡ set c.self.inside.left.list.items c.args.lane (slice_index c.self.inside.left.list.items c.args.lane - 1) = c.take_one.ensures.items in
    let weaving = weaving_after w lane (with_items weave.blocks.held.list c.fill_next_block.new.blocks).items c.take_one.new.self.list.items
    c.self.invariant.weaving some made fewer in
    let list = weave.addresses.held.list in
    let renewed : length (set c.blocks_mut-2.result.now lane c.fill_next_block.new.addresses) ≡ list.len =
    length-set c.blocks_mut-2.result.now lane c.fill_next_block.new.addresses ∙ c.blocks_mut-2.ensures.len in
    let same : (with_items list (set c.blocks_mut-2.result.now lane c.fill_next_block.new.addresses)).items
    ≡ set list.items lane c.fill_next_block.new.addresses =
    with_items_is list (set c.blocks_mut-2.result.now lane c.fill_next_block.new.addresses) renewed
    ∙ ap (λ (blocks : List (List ℕ)). set blocks lane c.fill_next_block.new.addresses) c.blocks_mut-2.ensures.value in
    record {
      weaving = weaving;
      addresses_size = ap length same ∙ length-set list.items lane c.fill_next_block.new.addresses ∙ c.self.invariant.addresses_size;
      addresses = rw same (addresses_stepped w lane (with_items weave.blocks.held.list c.fill_next_block.new.blocks).items list.items
          c.take_one.new.self.list.items c.fill_next_block.new.addresses at.len at.lane at.pass at.slice c.at.result
          c.self.invariant.weaving some c.self.invariant.addresses_size c.new-segment.ensures.is_of.len place.lane place.pass place.slice
          c.at.ensures.value fewer c.fill_next_block.ensures.addresses c.self.invariant.addresses);
    }

pub returns-clause-matrix : goal.returns-clause-matrix
returns-clause-matrix c =
    let weave = c.self.inside in
    let w : SliceProgress = slice_progress_of c.self.inside in
    let lane = c.args.lane in
    let some : 0 < slice_index c.self.inside.left.list.items c.args.lane = rw (ap (λ (v : SliceProgress). v.left) c.self.view_is) c.requires.left in
    let at = c.new-segment.result in
    let place = c.new-segment.ensures in
    let kept : length c.fill_next_block.new.blocks ≡ c.self.inside.blocks.held.list.len = omega (arith, c.fill_next_block.auto.blocks, c.blocks_mut.ensures.len) in
    let made : (with_items c.self.inside.blocks.held.list c.fill_next_block.new.blocks).items ≡ with_next_block (slice_progress_of c.self.inside) c.args.lane =
    with_items_is weave.blocks.held.list c.fill_next_block.new.blocks kept
    ∙ stepped w lane c.blocks_mut.result.now c.fill_next_block.new.blocks at.len at.lane at.pass at.slice c.at.result c.self.invariant.weaving some
    c.blocks_mut.ensures.value c.new-segment.ensures.is_of.len place.lane place.pass place.slice c.at.ensures.value
    c.fill_next_block.ensures.value in
    rw (← c.self.view_is)
    (ap (λ (blocks : List (List ℕ)). record {
      parameters = c.self.inside.params;
      is_started = true;
      first_hash = c.self.inside.h0;
      slices_made = c.self.inside.slices_made;
      blocks = blocks;
    }) made)

pub returns-clause-newest : goal.returns-clause-newest
returns-clause-newest c =
    let weave = c.self.inside in
    let w : SliceProgress = slice_progress_of c.self.inside in
    let lane = c.args.lane in
    let some : 0 < slice_index c.self.inside.left.list.items c.args.lane = rw (ap (λ (v : SliceProgress). v.left) c.self.view_is) c.requires.left in
    let at = c.new-segment.result in
    let place = c.new-segment.ensures in
    let kept : length c.fill_next_block.new.blocks ≡ c.self.inside.blocks.held.list.len = omega (arith, c.fill_next_block.auto.blocks, c.blocks_mut.ensures.len) in
    let made : (with_items c.self.inside.blocks.held.list c.fill_next_block.new.blocks).items ≡ with_next_block (slice_progress_of c.self.inside) c.args.lane =
    with_items_is weave.blocks.held.list c.fill_next_block.new.blocks kept
    ∙ stepped w lane c.blocks_mut.result.now c.fill_next_block.new.blocks at.len at.lane at.pass at.slice c.at.result c.self.invariant.weaving some
    c.blocks_mut.ensures.value c.new-segment.ensures.is_of.len place.lane place.pass place.slice c.at.ensures.value
    c.fill_next_block.ensures.value in
    let fewer : c.take_one.new.self.list.items
    ≡ set c.self.inside.left.list.items c.args.lane (slice_index c.self.inside.left.list.items c.args.lane - 1) = c.take_one.ensures.items in
    let weaving = weaving_after w lane (with_items weave.blocks.held.list c.fill_next_block.new.blocks).items c.take_one.new.self.list.items
    c.self.invariant.weaving some made fewer in
    weaving.newest

pub returns-clause-woven : goal.returns-clause-woven
returns-clause-woven c =
    let weave = c.self.inside in
    let w : SliceProgress = slice_progress_of c.self.inside in
    let lane = c.args.lane in
    let some : 0 < slice_index c.self.inside.left.list.items c.args.lane = rw (ap (λ (v : SliceProgress). v.left) c.self.view_is) c.requires.left in
    let at = c.new-segment.result in
    let place = c.new-segment.ensures in
    let kept : length c.fill_next_block.new.blocks ≡ c.self.inside.blocks.held.list.len = omega (arith, c.fill_next_block.auto.blocks, c.blocks_mut.ensures.len) in
    let made : (with_items c.self.inside.blocks.held.list c.fill_next_block.new.blocks).items ≡ with_next_block (slice_progress_of c.self.inside) c.args.lane =
    with_items_is weave.blocks.held.list c.fill_next_block.new.blocks kept
    ∙ stepped w lane c.blocks_mut.result.now c.fill_next_block.new.blocks at.len at.lane at.pass at.slice c.at.result c.self.invariant.weaving some
    c.blocks_mut.ensures.value c.new-segment.ensures.is_of.len place.lane place.pass place.slice c.at.ensures.value
    c.fill_next_block.ensures.value in
    let fewer : c.take_one.new.self.list.items
    ≡ set c.self.inside.left.list.items c.args.lane (slice_index c.self.inside.left.list.items c.args.lane - 1) = c.take_one.ensures.items in
    rw (← c.self.view_is) (stepped_woven w lane (with_items weave.blocks.held.list c.fill_next_block.new.blocks).items c.take_one.new.self.list.items
    c.self.invariant.weaving some made fewer)

pub returns-clause-share : goal.returns-clause-share
returns-clause-share c =
    let weave = c.self.inside in
    let w : SliceProgress = slice_progress_of c.self.inside in
    let lane = c.args.lane in
    let some : 0 < slice_index c.self.inside.left.list.items c.args.lane = rw (ap (λ (v : SliceProgress). v.left) c.self.view_is) c.requires.left in
    let at = c.new-segment.result in
    let place = c.new-segment.ensures in
    let fewer : c.take_one.new.self.list.items
    ≡ set c.self.inside.left.list.items c.args.lane (slice_index c.self.inside.left.list.items c.args.lane - 1) = c.take_one.ensures.items in
    rw (← c.self.view_is)
    (share_stepped w lane (with_items weave.blocks.held.list c.fill_next_block.new.blocks).items c.take_one.new.self.list.items
    c.args.ticks.now c.fill_next_block.new.ticks at.len at.pass at.slice c.at.result
    c.self.invariant.weaving some c.new-segment.ensures.is_of.len place.pass place.slice
    c.at.ensures.value fewer c.fill_next_block.ensures.count)

pub returns-clause-apart : goal.returns-clause-apart
returns-clause-apart c =
    let some : 0 < slice_index c.self.inside.left.list.items c.args.lane = rw (ap (λ (v : SliceProgress). v.left) c.self.view_is) c.requires.left in
    rw (← c.self.view_is) (step_reads_finished (slice_progress_of c.self.inside) c.args.lane c.self.invariant.weaving some)
