use Rattle.std.proofs.Common.{◌≡◌, ◌+◌, ap, arith, refl, ◌∙◌}
use Rattle.std.proofs.lemmas.List.{length-set}
use Rattle.aes_ctr.specs.Aes.{key_of, key_words, schedule_words}
use Rattle.aes_ctr.proofs.Keys.{all_words, key_of-schedule_words, key_words_more, schedule_words_more}
use Rattle.aes_ctr.proofs.key_expansion.key_expansion.Goals as goal

pub key-init : goal.key-init
unfolding key_words
key-init c = (refl, refl)

pub key-preserved : goal.key-preserved
key-preserved c = (
  omega (arith, c.key.invariant.0, length-set c.key.words c.key.i c.key_word.result),
  key_words_more _ c.key.words c.key.i _ (omega (arith, c.key.invariant.0)) c.key.invariant.1 c.key_word.ensures.word,
)

pub more-init : goal.more-init
unfolding schedule_words
more-init c =
    let all : c.key.i ≡ 8 = omega arith in
    (c.key.invariant.0, rw all at c.key.invariant.1)

pub more-preserved : goal.more-preserved
more-preserved c = (
  omega (arith, c.more.invariant.0, length-set c.more.words (c.more.n + 8) c.xor_words.result),
  schedule_words_more _ c.more.words c.more.n _ _ (omega (arith, c.more.invariant.0)) c.more.invariant.1 c.key_expansion_temp-temp.ensures.word c.xor_words.ensures.word,
)

pub returns-clause-schedule : goal.returns-clause-schedule
returns-clause-schedule c = all_words c.args.key.now c.more.words c.more.n (omega arith) c.more.invariant.0 c.more.invariant.1

pub returns-clause-key : goal.returns-clause-key
returns-clause-key c =
    ap key_of (all_words c.args.key.now c.more.words c.more.n (omega arith) c.more.invariant.0 c.more.invariant.1)
    ∙ key_of-schedule_words c.args.key.now 52 c.told-key
