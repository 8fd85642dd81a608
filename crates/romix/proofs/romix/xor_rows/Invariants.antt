use Rattle.std.proofs.Common.{◌≡◌, ◌*◌, take, drop}
use Rattle.four_words.specs.Words.{xored_words}
use Rattle.romix.proofs.romix.xor_rows.Given as goal

abbrev pub invariant-loop-i : goal.invariant-loop-i
invariant-loop-i l = record {
  done : take (16 * l.i) l.row ≡ xored_words (take (16 * l.i) l.fn.row) (take (16 * l.i) l.other);
  left : drop (16 * l.i) l.row ≡ drop (16 * l.i) l.fn.row;
}
