use Rattle.std.proofs.Common.{◌≡◌, ◌*◌, length, take}
use Rattle.four_words.specs.Words.{xored_words}
use Rattle.argon.proofs.block.write_xor.Given as goal

abbrev pub invariant-words : goal.invariant-words
invariant-words l = (length l.out ≡ 128) × (take (4 * l.i) l.out ≡ xored_words (take (4 * l.i) l.first) (take (4 * l.i) l.second))
