use Rattle.std.proofs.Common.{ℕ, ◌++◌, List, take, ap, ◌∙◌}
use Rattle.std.proofs.lemmas.List.{drop-replicate}
use Rattle.blake.proofs.Absorbing.{holds_hash}
use Rattle.blake.proofs.hasher.Blake2b.finish.Goals as goal

pub returns : goal.returns
returns c =
    let used : ℕ = c.args.self.used in
    let begun = λ (zeros : List ℕ). take used c.args.self.buffer ++ zeros in
    record {
      hash = λ n m held.
          c.copy_from_slice-2.ensures.after ∙ rw (c.write_u64_into.ensures, c.compress.ensures.state)
          (holds_hash c.args.self _ n m held (rw c.copy_from_slice.ensures.after (ap begun (drop-replicate used 128 0))));
    }
