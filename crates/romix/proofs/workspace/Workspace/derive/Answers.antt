use Rattle.std.proofs.Common.{◌≡◌, ℕ, ◌+◌, ◌^◌, ◌≤◌, length, arith, ap, subst, ◌∙◌}
use Rattle.romix.specs.Costs.{cores}
use Rattle.romix.specs.Scrypt.{scrypt}
use Rattle.romix.specs.Sparse.{sparse_table_core_count}
use Rattle.romix.specs.SparseCosts.{CostsAndKeep, cores_bound}
use Rattle.romix.specs.Workspace.{Memory}
use Rattle.romix.proofs.Work.{cores_are_bounded, cores_of_whole_table}
use Rattle.romix.proofs.workspace.Workspace.derive.Goals as goal

pub returns-clause-key : goal.returns-clause-key
unfolding scrypt
returns-clause-key c =
    c.write_key.ensures.key _ _ c.mix_parts.ensures.fed
    ∙ ap (λ (m : Memory). scrypt c.args.password.now c.args.salt.now (2 ^ m.sparse.costs.log_n) m.sparse.costs.r m.sparse.costs.p (length c.args.out.now)) c.self.view_is

pub returns-clause-bound : goal.returns-clause-bound
returns-clause-bound c =
    let s : CostsAndKeep = c.self.inside.sparse in
    let few : sparse_table_core_count c.args.password.now c.args.salt.now s ≤ cores_bound s =
    cores_are_bounded c.args.password.now c.args.salt.now s (omega (arith, c.self.invariant.0.low)) in
    let low : c.mix_parts.new.ticks ≤ c.args.ticks.now + cores_bound s = omega (arith, c.mix_parts.ensures.count, few) in
    subst (λ (m : Memory). c.mix_parts.new.ticks ≤ c.args.ticks.now + cores_bound m.sparse) c.self.view_is low

pub returns-clause-whole : goal.returns-clause-whole
returns-clause-whole c h =
    let s : CostsAndKeep = c.self.inside.sparse in
    let one : s.keep ≡ 1 = ap (λ (m : Memory). m.sparse.keep) c.self.view_is ∙ h in
    c.mix_parts.ensures.count
    ∙ ap (λ (k : ℕ). c.args.ticks.now + k) (cores_of_whole_table c.args.password.now c.args.salt.now s one)
    ∙ ap (λ (m : Memory). c.args.ticks.now + cores m.sparse.costs) c.self.view_is
