use Rattle.std.proofs.Common.{◌≡◌, length, refl, sym, ap, ◌∙◌, arith}
use Rattle.std.specs.Vec.{with_items}
use Rattle.std.proofs.lemmas.List.{length-replicate, with_items_is}
use Rattle.argon.specs.Filling.{Filling, HasSliceLeft}
use Rattle.argon.specs.Matrix.{filling_state_of_matrix}
use Rattle.argon.specs.Parameters.{Parameters}
use Rattle.argon.specs.SliceProgress.{new_slice_progress}
use Rattle.argon.proofs.SliceProgress.{first_addresses, opened}
use Rattle.argon.proofs.WorkLeft.{share_opened}
use Rattle.argon.proofs.Woven.{opened_woven}
use Rattle.argon.proofs.weave.Weave.open.Goals as goal

pub invariant_of-result : goal.invariant_of-result
invariant_of-result c =
    let f = filling_state_of_matrix c.matrix.inside in
    let parameters : c.lanes.inside.params ≡ c.matrix.inside.params =
    c.lanes.view_is ∙ c.requires.parameters ∙ sym (ap (λ (f : Filling). f.parameters) c.matrix.view_is) in
    let lanes : c.lanes.inside.params.lanes ≡ c.matrix.inside.params.lanes = ap (λ (p : Parameters). p.lanes) parameters in
    let count : length c.lanes.inside.left.list.items ≡ c.matrix.inside.params.lanes =
    ap length c.lanes.invariant.none_left ∙ length-replicate c.lanes.inside.params.lanes 0 ∙ lanes in
    let left : c.fill.new.self.list.items ≡ (new_slice_progress (filling_state_of_matrix c.matrix.inside)).left =
    c.fill.ensures.items ∙ rw (count, c.segment_len.ensures.value, c.first_index.ensures.value) refl in
    let next : HasSliceLeft (filling_state_of_matrix c.matrix.inside) = rw c.matrix.view_is c.requires.next in
    let weaving = opened f c.fill.new.self.list.items c.matrix.invariant next left in
    let kept : length c.prepare_lane_addresses.new.addresses ≡ c.lanes.inside.addresses.held.list.len = omega (arith, c.prepare_lane_addresses.ensures.size, c.blocks_mut.ensures.len) in
    let same : (with_items c.lanes.inside.addresses.held.list c.prepare_lane_addresses.new.addresses).items ≡ c.prepare_lane_addresses.new.addresses =
    with_items_is c.lanes.inside.addresses.held.list c.prepare_lane_addresses.new.addresses kept in
    record {
      weaving = weaving;
      addresses_size = ap length same ∙ kept ∙ c.lanes.invariant.addresses ∙ lanes;
      addresses = rw same (first_addresses f c.fill.new.self.list.items c.prepare_lane_addresses.new.addresses c.matrix.invariant left c.prepare_lane_addresses.ensures.addresses);
    }

pub returns-clause-newest : goal.returns-clause-newest
returns-clause-newest c =
    let f = filling_state_of_matrix c.matrix.inside in
    let parameters : c.lanes.inside.params ≡ c.matrix.inside.params =
    c.lanes.view_is ∙ c.requires.parameters ∙ sym (ap (λ (f : Filling). f.parameters) c.matrix.view_is) in
    let lanes : c.lanes.inside.params.lanes ≡ c.matrix.inside.params.lanes = ap (λ (p : Parameters). p.lanes) parameters in
    let count : length c.lanes.inside.left.list.items ≡ c.matrix.inside.params.lanes =
    ap length c.lanes.invariant.none_left ∙ length-replicate c.lanes.inside.params.lanes 0 ∙ lanes in
    let left : c.fill.new.self.list.items ≡ (new_slice_progress (filling_state_of_matrix c.matrix.inside)).left =
    c.fill.ensures.items ∙ rw (count, c.segment_len.ensures.value, c.first_index.ensures.value) refl in
    let next : HasSliceLeft (filling_state_of_matrix c.matrix.inside) = rw c.matrix.view_is c.requires.next in
    let weaving = opened f c.fill.new.self.list.items c.matrix.invariant next left in
    weaving.newest

pub returns-clause-share : goal.returns-clause-share
returns-clause-share c =
    let f = filling_state_of_matrix c.matrix.inside in
    let parameters : c.lanes.inside.params ≡ c.matrix.inside.params =
    c.lanes.view_is ∙ c.requires.parameters ∙ sym (ap (λ (f : Filling). f.parameters) c.matrix.view_is) in
    let lanes : c.lanes.inside.params.lanes ≡ c.matrix.inside.params.lanes = ap (λ (p : Parameters). p.lanes) parameters in
    let count : length c.lanes.inside.left.list.items ≡ c.matrix.inside.params.lanes =
    ap length c.lanes.invariant.none_left ∙ length-replicate c.lanes.inside.params.lanes 0 ∙ lanes in
    let left : c.fill.new.self.list.items ≡ (new_slice_progress (filling_state_of_matrix c.matrix.inside)).left =
    c.fill.ensures.items ∙ rw (count, c.segment_len.ensures.value, c.first_index.ensures.value) refl in
    rw (← c.matrix.view_is) (share_opened f c.fill.new.self.list.items c.args.ticks.now c.prepare_lane_addresses.new.ticks c.matrix.invariant left c.prepare_lane_addresses.ensures.count)

pub returns-clause-woven : goal.returns-clause-woven
returns-clause-woven c =
    let f = filling_state_of_matrix c.matrix.inside in
    let parameters : c.lanes.inside.params ≡ c.matrix.inside.params =
    c.lanes.view_is ∙ c.requires.parameters ∙ sym (ap (λ (f : Filling). f.parameters) c.matrix.view_is) in
    let lanes : c.lanes.inside.params.lanes ≡ c.matrix.inside.params.lanes = ap (λ (p : Parameters). p.lanes) parameters in
    let count : length c.lanes.inside.left.list.items ≡ c.matrix.inside.params.lanes =
    ap length c.lanes.invariant.none_left ∙ length-replicate c.lanes.inside.params.lanes 0 ∙ lanes in
    let left : c.fill.new.self.list.items ≡ (new_slice_progress (filling_state_of_matrix c.matrix.inside)).left =
    c.fill.ensures.items ∙ rw (count, c.segment_len.ensures.value, c.first_index.ensures.value) refl in
    let next : HasSliceLeft (filling_state_of_matrix c.matrix.inside) = rw c.matrix.view_is c.requires.next in
    rw (← c.matrix.view_is) (opened_woven f c.fill.new.self.list.items c.matrix.invariant next left)
