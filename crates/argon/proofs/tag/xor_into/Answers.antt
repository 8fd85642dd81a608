use Rattle.std.proofs.Common.{rules, ◌≢◌, arith, ◌∙◌}
use Rattle.std.proofs.lemmas.List.{take_more_set, get_or-set_other}
use Rattle.argon.proofs.XoredWords.{xored_words_more}
use Rattle.argon.proofs.tag.xor_into.Goals as goal

pub loop-k-preserved : goal.loop-k-preserved
loop-k-preserved c = (
  search rules,
  take_more_set c.loop-k.into c.loop-k.k _ (omega arith)
      ∙ rw (c.loop-k.invariant.1, c.loop-k.invariant.2 c.loop-k.k (omega arith))
      (xored_words_more c.args.into.now c.args.other.now c.loop-k.k (omega arith) (omega arith)),
  λ j h.
      let ne : j ≢ c.loop-k.k = omega arith in
      get_or-set_other c.loop-k.into c.loop-k.k j _ 0 ne ∙ c.loop-k.invariant.2 j (omega arith),
)
