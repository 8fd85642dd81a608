use Rattle.std.proofs.Common.{◌≡◌, ◌*◌, length, take, drop}
use Rattle.four_words.specs.Words.{xored_words}
use Rattle.argon.proofs.block.xor_two_blocks_into.Given as goal

abbrev pub invariant-words : goal.invariant-words
invariant-words l = record {
  long : length l.out ≡ 128;
  done : take (4 * l.i) l.out ≡ xored_words (take (4 * l.i) (xored_words l.first l.second)) (take (4 * l.i) l.fn.out);
  left : drop (4 * l.i) l.out ≡ drop (4 * l.i) l.fn.out;
}
