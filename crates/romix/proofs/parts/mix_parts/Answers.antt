use Rattle.std.proofs.Common.{◌≡◌, ℕ, List, ◌+◌, ◌*◌, ◌/◌, ◌^◌, ◌≤◌, length, arith, refl, ap, subst, ◌∙◌}
use Rattle.std.proofs.Math.Nat.{mul-le-mul_left}
use Rattle.macs.specs.KeyPair.{Pbkdf2HasPasswordAndSalt}
use Rattle.macs.specs.Pbkdf2.{pbkdf2}
use Rattle.romix.specs.Costs.{Parameters, parts_bytes}
use Rattle.romix.specs.Romix.{romix}
use Rattle.romix.specs.Scrypt.{parts_after_romix, octets_of, part_at, words_of}
use Rattle.romix.specs.Sparse.{mixes, block_mix_count_of_parts, sparse_table_core_count}
use Rattle.romix.specs.SparseCosts.{CostsAndKeep}
use Rattle.romix.proofs.Keeps.{keep_divides}
use Rattle.romix.proofs.Kept.{count_part, mixes_more}
use Rattle.romix.proofs.Octets.{parts_after_romix-more}
use Rattle.romix.proofs.parts.mix_parts.Goals as goal

pub parts-init : goal.parts-init
unfolding parts_after_romix block_mix_count_of_parts
parts-init c = record { fed = c.new-pair.ensures.empty; count = omega arith }

pub derive_part-requires-clause-fits : goal.derive_part-requires-clause-fits
derive_part-requires-clause-fits c =
    let r : ℕ = c.args.sparse.now.costs.r in
    let eighth : length c.parts.row / 8 ≡ 4 * r = omega arith in
    let p : c.p-k-end.result ≡ c.args.sparse.now.costs.p = c.p-k-end.ensures.p ∙ ap (λ (m : Parameters). m.p) c.costs-costs.ensures.costs in
    let few : c.parts.k + 1 ≤ c.args.sparse.now.costs.p = omega arith in
    rw eighth (omega (arith, mul-le-mul_left r few, c.keep-keep.ensures.in_range.costs.product))

pub romix-requires-clause-divides : goal.romix-requires-clause-divides
romix-requires-clause-divides c =
    let s : CostsAndKeep = c.args.sparse.now in
    let log : c.from-log_n.result ≡ s.costs.log_n = c.from-log_n.ensures ∙ c.log_n.ensures.log_n ∙ ap (λ (m : Parameters). m.log_n) c.costs-costs.ensures.costs in
    rw (log, c.keep-keep.ensures.keep) (keep_divides s.costs.log_n s.keep c.keep-keep.ensures.in_range.power c.keep-keep.ensures.in_range.at_most_n)

pub romix-requires-clause-table : goal.romix-requires-clause-table
romix-requires-clause-table c =
    let s : CostsAndKeep = c.args.sparse.now in
    let log : c.from-log_n.result ≡ s.costs.log_n = c.from-log_n.ensures ∙ c.log_n.ensures.log_n ∙ ap (λ (m : Parameters). m.log_n) c.costs-costs.ensures.costs in
    let row : length c.derive_part.new.row ≡ 32 * s.costs.r = omega arith in
    rw (log, c.keep-keep.ensures.keep, row) (omega arith)

pub parts-preserved : goal.parts-preserved
parts-preserved c =
    let s : CostsAndKeep = c.args.sparse.now in
    let r : ℕ = s.costs.r in
    let k : ℕ = c.parts.k in
    let n : ℕ = 2 ^ s.costs.log_n in
    let password : List ℕ = c.args.password.now in
    let b : List ℕ = pbkdf2 password c.args.salt.now (parts_bytes s.costs) in
    let wide : length c.parts.row ≡ 32 * r = omega arith in
    let blocks : length c.parts.row / 32 ≡ r = omega arith in
    let log : c.from-log_n.result ≡ s.costs.log_n = c.from-log_n.ensures ∙ c.log_n.ensures.log_n ∙ ap (λ (m : Parameters). m.log_n) c.costs-costs.ensures.costs in
    let p : c.p-k-end.result ≡ c.args.sparse.now.costs.p = c.p-k-end.ensures.p ∙ ap (λ (m : Parameters). m.p) c.costs-costs.ensures.costs in
    let salted = c.update.ensures.appended password _ c.new-salted.ensures.empty in
    let read : c.derive_part.new.row ≡ words_of (part_at b r k) (32 * r) =
    c.derive_part.ensures.part password c.args.salt.now salted s.costs.p (omega arith) ∙ rw (blocks, wide) refl in
    record {
      fed = subst (λ (t : List ℕ). Pbkdf2HasPasswordAndSalt c.feed.new.pair password t)
          (parts_after_romix-more b _ _ n r k refl (ap octets_of (c.romix.ensures.words ∙ ap (λ (m : ℕ). romix c.derive_part.new.row (2 ^ m)) log ∙ ap (λ (w : List ℕ). romix w n) read)))
          (c.feed.ensures.fed password _ c.parts.invariant.fed);
      count = count_part c.args.ticks.now _ _ (block_mix_count_of_parts b s k) (mixes c.derive_part.new.row n s.keep) _ r (length c.derive_part.new.row) c.parts.invariant.count
          (c.romix.ensures.count ∙ rw (log, c.keep-keep.ensures.keep) refl)
          (let long : length c.derive_part.new.row ≡ 32 * r = omega arith in long) (mixes_more b c.derive_part.new.row s k read);
    }

pub returns-clause-fed : goal.returns-clause-fed
returns-clause-fed c =
    let p : c.p-k-end.result ≡ c.args.sparse.now.costs.p = c.p-k-end.ensures.p ∙ ap (λ (m : Parameters). m.p) c.costs-costs.ensures.costs in
    let all : c.parts.k ≡ c.args.sparse.now.costs.p = omega arith in
    rw all at c.parts.invariant.fed

pub returns-clause-count : goal.returns-clause-count
unfolding sparse_table_core_count
returns-clause-count c =
    let p : c.p-k-end.result ≡ c.args.sparse.now.costs.p = c.p-k-end.ensures.p ∙ ap (λ (m : Parameters). m.p) c.costs-costs.ensures.costs in
    let all : c.parts.k ≡ c.args.sparse.now.costs.p = omega arith in
    rw all at c.parts.invariant.count
