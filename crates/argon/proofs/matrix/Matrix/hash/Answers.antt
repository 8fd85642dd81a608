use Rattle.std.proofs.Common.{◌≡◌, ◌*◌, ◌/◌, ◌%◌, refl, sym, arith, ap, ◌∙◌}
use Rattle.argon.specs.Argon2.{argon2_tag}
use Rattle.argon.specs.Counts.{slice_work, work}
use Rattle.argon.proofs.Slices.{slices_work}
use Rattle.argon.specs.Filling.{Filling}
use Rattle.argon.specs.Parameters.{Parameters}
use Rattle.argon.proofs.Slices.{slices_more, slices_work_is, range_long}
use Rattle.argon.proofs.matrix.Matrix.hash.Goals as goal

pub loop-init : goal.loop-init
unfolding slices_work
loop-init c =
    (c.start.ensures.parameters, c.start.ensures.started, c.start.ensures.first_hash, c.start.ensures.position, c.start.ensures.size, omega arith)

pub loop-preserved : goal.loop-preserved
loop-preserved c =
    let d = c.args.self.now.parameters in
    let k = c.loop.counter in
    let inv = c.loop.invariant in
    let same : slice_work c.loop.self.parameters (c.loop.self.slices_made / 4) (c.loop.self.slices_made % 4) ≡ slice_work c.args.self.now.parameters (c.loop.counter / 4) (c.loop.counter % 4) =
    rw (inv.0, inv.3) refl in (
      ap (λ (f : Filling). f.parameters) c.slice.ensures.matrix ∙ inv.0,
      ap (λ (f : Filling). f.is_started) c.slice.ensures.matrix ∙ inv.1,
      ap (λ (f : Filling). f.first_hash) c.slice.ensures.matrix ∙ inv.2,
      omega (arith, c.slice.ensures.position, inv.3),
      c.slice.ensures.size ∙ inv.4,
      omega (arith, c.slice.ensures.count, same, inv.5, slices_more c.args.self.now.parameters c.loop.counter),
    )

pub returns-clause-hashed : goal.returns-clause-hashed
unfolding argon2_tag
returns-clause-hashed c =
    let inv = c.loop.invariant in
    let same : c.self.inside.params ≡ c.args.self.now.parameters = ap (λ (f : Filling). f.parameters) c.self.view_is ∙ c.start.ensures.parameters in
    let passes : c.self.inside.params.passes ≡ c.loop.self.parameters.passes = ap (λ (parameters : Parameters). parameters.passes) (same ∙ sym inv.0) in
    let end : c.loop.counter ≡ 4 * c.self.inside.params.passes = omega (arith, c.passes.ensures.value) in
    record {
      tag = c.tag.ensures.tag ∙ rw (c.loop.invariant.0, c.loop.invariant.2) refl;
      parameters = c.loop.invariant.0;
      done = record { started = c.loop.invariant.1; all = omega (arith, inv.3, end, passes) };
      h0 = c.loop.invariant.2;
      size = c.loop.invariant.4;
    }

pub returns-clause-count : goal.returns-clause-count
returns-clause-count c =
    let range = c.self.invariant.in_range in
    let same : c.self.inside.params ≡ c.args.self.now.parameters = ap (λ (f : Filling). f.parameters) c.self.view_is ∙ c.start.ensures.parameters in
    let all : slices_work c.self.inside.params (4 * c.self.inside.params.passes) ≡ work c.self.inside.params =
    slices_work_is c.self.inside.params (range_long c.self.inside.params range) range.passes range.kind in
    let end : c.loop.counter ≡ 4 * c.self.inside.params.passes = omega (arith, c.passes.ensures.value) in
    c.loop.invariant.5 ∙ rw (end, ← same, all) refl
