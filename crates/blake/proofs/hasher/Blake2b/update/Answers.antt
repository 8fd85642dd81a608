use Rattle.std.proofs.Common.{arith, ◌∙◌}
use Rattle.std.proofs.lemmas.List.{append_assoc, take_all, take_rest}
use Rattle.blake.proofs.Absorbing.{take_two}
use Rattle.blake.proofs.hasher.Blake2b.update.Goals as goal

pub loop-start-preserved : goal.loop-start-preserved
loop-start-preserved c = record {
  in_bytes = omega (arith, c.take_some-start.ensures.within);
  same_output = c.take_some-start.ensures.hash_len ∙ c.loop-start.invariant.same_output;
  count = omega (arith, c.take_some-start.ensures.hashed_message_len, c.loop-start.invariant.count);
  holds = λ n m held.
      let now = c.take_some-start.ensures.holds n _ (c.loop-start.invariant.holds n m held) in
      rw (take_two c.args.bytes.now c.loop-start.start c.take_some-start.result, ← append_assoc)
      (rw (take_rest c.args.bytes.now c.loop-start.start) at now);
}

pub returns : goal.returns
returns c = record {
  handed = record {
    answer_len = c.loop-start.invariant.same_output;
    message_len = omega (arith, c.loop-start.invariant.count, c.loop-start.invariant.in_bytes);
    message = λ n m held.
        rw (take_all c.loop-start.start c.args.bytes.now (omega arith)) at (c.loop-start.invariant.holds n m held);
  };
}
