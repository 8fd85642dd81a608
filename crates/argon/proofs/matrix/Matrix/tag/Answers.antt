use Rattle.std.proofs.Common.{◌≡◌, ℕ, ◌*◌, ◌≤◌, length, true, sym, arith, ap, ◌∙◌}
use Rattle.argon.specs.Buffer.{HoldsNewestBlocks, column_number_after_slices}
use Rattle.argon.specs.Filling.{Filling}
use Rattle.argon.proofs.LastColumn.{tag_is}
use Rattle.argon.proofs.matrix.Matrix.tag.Goals as goal

pub returns : goal.returns
returns c = record {
  tag = let d = c.self.inside.params in
      let started : c.self.inside.is_started ≡ true = ap (λ (f : Filling). f.is_started) c.self.view_is ∙ c.requires.done.started in
      let made : c.self.inside.slices_made ≡ c.args.self.now.slices_made = ap (λ (f : Filling). f.slices_made) c.self.view_is in
      let passes : c.self.inside.params.passes ≡ c.args.self.now.parameters.passes = ap (λ (f : Filling). f.parameters.passes) c.self.view_is in
      let all : c.self.inside.slices_made ≡ 4 * c.self.inside.params.passes = omega (arith, c.requires.done.all) in
      let long : 2 ≤ c.segment_len.result = c.segment_len.ensures.long in
      let newest = c.self.invariant.newest started in
      let last : HoldsNewestBlocks c.self.inside.params c.self.inside.h0 c.self.inside.blocks.held.list.items (λ _. column_number_after_slices c.self.inside.params (4 * c.self.inside.params.passes)) =
      rw all at newest in
      let len : length c.args.out.now ≡ c.self.inside.params.tag_len = c.requires.len ∙ sym (ap (λ (f : Filling). f.parameters.tag_len) c.self.view_is) in
      rw (← c.self.view_is)
      (tag_is c.self.inside.params c.self.inside.h0 c.self.inside.blocks.held.list.items c.lanes.result (4 * c.segment_len.result) (length c.args.out.now)
      c.xor_last_column-last.result c.write_tag.new.out (rw (← c.segment_len.ensures.value) long) c.self.invariant.in_range.passes last
      c.lanes.ensures.value (ap (λ (x : ℕ). 4 * x) c.segment_len.ensures.value) len (rw (← c.blocks-2.ensures.value) c.xor_last_column-last.ensures.value) c.write_tag.ensures.value);
}
