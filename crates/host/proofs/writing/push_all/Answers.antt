use Rattle.std.proofs.Common.{arith, ◌∙◌}
use Rattle.std.proofs.lemmas.Grind.{common_steps}
use Rattle.host.proofs.Pushes.{push_next}
use Rattle.host.proofs.writing.push_all.Goals as goal

pub loop-at-preserved : goal.loop-at-preserved
loop-at-preserved g c = record {
  within = grind (arith, common_steps, c.in_ok-at.ensures.bound, c.loop-at.invariant.within);
  same = c.in_ok-at.ensures.counts ∙ c.loop-at.invariant.same;
  grants = c.in_ok-at.ensures.granted ∙ c.loop-at.invariant.grants;
  put = λ t. push_next c.loop-at.at c.in_ok-at.field-0 c.args.bytes.now (g.H.Host.seen c.args.host.now) (g.H.Host.seen c.loop-at.host) (g.H.Host.seen c.push.new.self) (c.loop-at.invariant.put t) (c.in_ok-at.ensures.put t);
}
