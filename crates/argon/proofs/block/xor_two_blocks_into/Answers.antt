use Rattle.std.proofs.Common.{◌≡◌, ◌*◌, arith, length}
use Rattle.four_words.specs.Words.{xored_words}
use Rattle.argon.proofs.XoredWords.{all_xored, over_left, over_more, length-xored_words}
use Rattle.argon.proofs.block.xor_two_blocks_into.Goals as goal

pub words-preserved : goal.words-preserved
words-preserved c =
    record {
      long = omega arith;
      done = rw (c.put_words.ensures.value, c.xor-new.ensures.value, c.xor.ensures.value, c.words_from.ensures.value, c.words_from-in-words.ensures.value, c.words_from-in-words-2.ensures.value)
          (over_more c.args.first.now c.args.second.now c.args.out.now c.words.out c.words.i (omega arith) (omega arith) (omega arith)
          (omega (arith, c.words.invariant.long)) (omega arith) c.words.invariant.done c.words.invariant.left);
      left = rw (c.put_words.ensures.value, c.xor-new.ensures.value, c.xor.ensures.value, c.words_from.ensures.value, c.words_from-in-words.ensures.value, c.words_from-in-words-2.ensures.value)
          (over_left c.args.first.now c.args.second.now c.args.out.now c.words.out c.words.i (omega arith) (omega arith)
          (omega (arith, c.words.invariant.long)) (omega arith) c.words.invariant.left);
    }

pub returns : goal.returns
returns c = record {
  value = let all : 4 * c.words.i ≡ 128 = omega arith in
      let xored = xored_words c.args.first.now c.args.second.now in
      let long : length xored ≡ 128 = length-xored_words c.args.first.now c.args.second.now 128 (omega arith) (omega arith) in
      all_xored xored c.args.out.now c.words.out long (omega arith) (omega (arith, c.words.invariant.long)) (rw all at c.words.invariant.done);
}
