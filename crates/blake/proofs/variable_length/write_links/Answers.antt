use Rattle.std.proofs.Common.{◌≡◌, ℕ, ◌+◌, ◌-◌, ◌*◌, length, take, arith, ◌∙◌, suc, List, ◌++◌}
use Rattle.std.proofs.lemmas.List.{append_assoc}
use Rattle.blake.specs.LongHash.{hash_link_count, links}
use Rattle.blake.specs.Blake2b.{blake2b}
use Rattle.blake.proofs.variable_length.write_links.Goals as goal

-- the front grows by the first 32 bytes of v, and the next V takes the place of v
link_step : (n j k : ℕ) (front v next t : List ℕ) → k ≡ suc j → next ≡ blake2b 64 v → front ++ links n k v ≡ t
    → (front ++ take 32 v) ++ links n j next ≡ t
unfolding links
link_step n j k front v next t e f h =
    let g : front ++ (take 32 v ++ links n j (blake2b 64 v)) ≡ t = rw e at h in
    rw f (append_assoc front (take 32 v) (links n j (blake2b 64 v)) ∙ g)

-- the same for the last V, which is whole
link_last : (n k : ℕ) (front v t : List ℕ) → k ≡ 0 → front ++ links n k v ≡ t → (front ++ take 32 v) ++ blake2b n v ≡ t
unfolding links
link_last n k front v t e h =
    let g : front ++ (take 32 v ++ blake2b n v) ≡ t = rw e at h in
    append_assoc front (take 32 v) (blake2b n v) ∙ g

pub links-preserved : goal.links-preserved
links-preserved c =
    let at : 32 * (c.links.i + 1) ≡ 32 * c.links.i + 32 = omega arith in (
      omega arith,
      rw (at, c.write_first_32_bytes.ensures.front) (link_step _ _ _ _ c.links.v _ _ (omega arith) c.next_link-v.ensures.hash c.links.invariant.1),
    )

pub returns : goal.returns
returns c =
    let n : ℕ = length c.args.out.now in
    let r : ℕ = c.div_ceil-count.result - 2 in
    let count : hash_link_count n ≡ r = omega arith in
    let done : c.links.i ≡ r - 1 = omega arith in
    let at : 32 * (r - 1) + 32 ≡ 32 * r = omega arith in
    let width : length c.write_first_32_bytes-2.new.out ≡ n = omega arith in
    record {
      links = c.write_last.ensures.last ∙ rw (width, rw at at c.write_first_32_bytes-2.ensures.front, count)
          (link_last (n - 32 * r) (r - 1 - (r - 1)) (take (32 * (r - 1)) c.links.out) c.links.v _ (omega arith) (rw done at c.links.invariant.1));
    }
