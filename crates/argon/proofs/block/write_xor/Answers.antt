use Rattle.std.proofs.Common.{◌≡◌, ◌*◌, arith}
use Rattle.argon.proofs.XoredWords.{all_xored, write_more}
use Rattle.argon.proofs.block.write_xor.Goals as goal

pub words-preserved : goal.words-preserved
words-preserved c = (
  omega arith,
  rw (c.put_words.ensures.value, c.xor-new.ensures.value, c.words_from.ensures.value, c.words_from-in-words.ensures.value)
      (write_more c.args.first.now c.args.second.now c.words.out c.words.i (omega arith) (omega arith) (omega arith) (omega arith) c.words.invariant.1),
)

pub returns : goal.returns
returns c = record {
  value = let all : 4 * c.words.i ≡ 128 = omega arith in
      all_xored c.args.first.now c.args.second.now c.words.out (omega arith) (omega arith) (omega arith) (rw all at c.words.invariant.1);
}
