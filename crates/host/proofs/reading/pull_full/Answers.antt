use Rattle.std.proofs.Common.{arith, length, ◌∙◌, ◌-◌, ap, take}
use Rattle.std.proofs.lemmas.Grind.{common_steps}
use Rattle.std.proofs.Math.Seq.{drop-drop}
use borrow.Rule.Slice.PartMut.{same_len_mid}
use Rattle.host.specs.HostState.{HostState, after_pull}
use Rattle.host.proofs.Pulls.{fits_on, put_on}
use Rattle.host.proofs.reading.pull_full.Goals as goal

pub loop-at-preserved : goal.loop-at-preserved
loop-at-preserved g c =
    let s = g.H.Host.seen c.args.host.now in
    let i = c.loop-at.invariant in
    let at = c.loop-at.at in
    let n = c.in_ok-n.n in record {
      long = same_len_mid at (length c.loop-at.buf - at) c.loop-at.buf c.pull.new.buf (c.pull.auto.buf) ∙ i.long;
      bound = grind (arith, common_steps, c.in_ok-n.ensures.bound, i.long, i.bound);
      grants = c.in_ok-n.ensures.granted (omega (arith, c.if-n-eq0.false)) ∙ i.grants;
      same = c.in_ok-n.ensures.counts ∙ i.same;
      within = λ t. fits_on at n s (g.H.Host.seen c.loop-at.host) (ap (λ (w : HostState). w.input) (i.taken t)) (i.within t) (c.in_ok-n.ensures.within t);
      bytes = λ t. put_on at (length c.loop-at.buf - at) n c.loop-at.buf c.pull.new.buf s.input (grind (arith, i.long, i.bound)) (grind (arith, common_steps, c.in_ok-n.ensures.bound, c.pull.auto.buf)) (i.bytes t)
          (c.in_ok-n.ensures.bytes t ∙ ap (λ (w : HostState). take n w.input) (i.taken t));
      taken = λ t. c.in_ok-n.ensures.taken t ∙ ap (after_pull n) (i.taken t) ∙ ap (λ xs. let w : HostState = record s { input = xs } in w) (drop-drop n at s.input);
    }
