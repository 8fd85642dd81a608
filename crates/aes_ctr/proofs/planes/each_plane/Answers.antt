use Rattle.std.proofs.Common.{[], ◌∷◌}
use Rattle.aes_ctr.specs.Planes.{plane}
use Rattle.aes_ctr.proofs.Held.{below_eight}
use Rattle.aes_ctr.proofs.planes.each_plane.Goals as goal

pub returns : goal.returns
returns g c = record {
  steps = below_eight (λ k. goal.F-post g c.args.step (plane c.args.planes k) (plane (c.step.result ∷ c.step-2.result ∷ c.step-3.result ∷ c.step-4.result ∷ c.step-5.result ∷ c.step-6.result ∷ c.step-7.result ∷ c.step-8.result ∷ []) k))
      c.step.ensures c.step-2.ensures c.step-3.ensures c.step-4.ensures c.step-5.ensures c.step-6.ensures c.step-7.ensures c.step-8.ensures;
}
