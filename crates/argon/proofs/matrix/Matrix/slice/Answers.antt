use Rattle.std.proofs.Common.{◌≡◌, ℕ, ◌+◌, ◌*◌, ◌<◌, List, length, refl, arith, ap, ◌∙◌}
use Rattle.std.specs.Vec.{with_items}
use Rattle.std.proofs.lemmas.List.{with_items_is}
use Rattle.argon.specs.Filling.{HasSliceLeft}
use Rattle.argon.specs.Matrix.{filling_state_of_matrix}
use Rattle.argon.specs.Woven.{with_next_slice}
use Rattle.argon.proofs.Woven.{slice_is_newest}
use Rattle.argon.proofs.matrix.Matrix.slice.Goals as goal

pub invariant_of-self : goal.invariant_of-self
invariant_of-self c =
    let f = filling_state_of_matrix c.self.inside in
    let next : HasSliceLeft (filling_state_of_matrix c.self.inside) = rw c.self.view_is c.requires.next in
    let kept : length c.fill_slice.new.blocks ≡ c.self.inside.blocks.held.list.len = omega (arith, c.fill_slice.ensures.size, c.blocks_mut.ensures.len) in
    let same = with_items_is c.self.inside.blocks.held.list c.fill_slice.new.blocks kept in
    let made : c.fill_slice.new.blocks ≡ (with_next_slice (filling_state_of_matrix c.self.inside)).blocks =
    c.fill_slice.ensures.made f (record { filling = c.self.invariant; next = next; is_of = refl; pass_is = refl; slice_is = refl }) c.blocks_mut.ensures.value in
    record {
      in_range = c.self.invariant.in_range;
      size = rw same (c.fill_slice.ensures.size ∙ rw c.blocks_mut.ensures.value c.self.invariant.size);
      position = let left : c.self.inside.slices_made < 4 * c.self.inside.params.passes = next.left in omega arith;
      newest = λ started. rw (same, made) (slice_is_newest f c.self.invariant next);
    }

pub returns-clause-matrix : goal.returns-clause-matrix
returns-clause-matrix c =
    let f = filling_state_of_matrix c.self.inside in
    let next : HasSliceLeft (filling_state_of_matrix c.self.inside) = rw c.self.view_is c.requires.next in
    let kept : length c.fill_slice.new.blocks ≡ c.self.inside.blocks.held.list.len = omega (arith, c.fill_slice.ensures.size, c.blocks_mut.ensures.len) in
    let made : (with_items c.self.inside.blocks.held.list c.fill_slice.new.blocks).items ≡ (with_next_slice (filling_state_of_matrix c.self.inside)).blocks =
    with_items_is c.self.inside.blocks.held.list c.fill_slice.new.blocks kept
    ∙ c.fill_slice.ensures.made f (record { filling = c.self.invariant; next = next; is_of = refl; pass_is = refl; slice_is = refl }) c.blocks_mut.ensures.value in
    rw (← c.self.view_is)
    (ap (λ (blocks : List (List ℕ)). record {
      parameters = c.self.inside.params;
      is_started = c.self.inside.is_started;
      first_hash = c.self.inside.h0;
      slices_made = c.self.inside.slices_made + 1;
      blocks = blocks;
    }) made)

pub returns-clause-newest : goal.returns-clause-newest
returns-clause-newest c =
    let f = filling_state_of_matrix c.self.inside in
    let next : HasSliceLeft (filling_state_of_matrix c.self.inside) = rw c.self.view_is c.requires.next in
    let kept : length c.fill_slice.new.blocks ≡ c.self.inside.blocks.held.list.len = omega (arith, c.fill_slice.ensures.size, c.blocks_mut.ensures.len) in
    let made : c.fill_slice.new.blocks ≡ (with_next_slice (filling_state_of_matrix c.self.inside)).blocks =
    c.fill_slice.ensures.made f (record { filling = c.self.invariant; next = next; is_of = refl; pass_is = refl; slice_is = refl }) c.blocks_mut.ensures.value in
    rw (with_items_is c.self.inside.blocks.held.list c.fill_slice.new.blocks kept, made) (slice_is_newest f c.self.invariant next)
