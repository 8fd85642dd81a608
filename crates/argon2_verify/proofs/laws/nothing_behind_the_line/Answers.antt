use Rattle.argon2_verify.proofs.BehindLine.{by_refusal, differs, left, none_left, refused, verifies}
use Rattle.argon2_verify.proofs.laws.nothing_behind_the_line.Goals as goal

pub returns : goal.returns
returns c = record {
  verifies = λ words before after input same. verifies words before input same after;
  differs = λ words before after input same. differs words before input same after;
  refused = λ words before after r input same. refused words before input same after r;
  left = left;
  none_left = none_left;
  no_less_left = λ words before after r line_end behind whole. by_refusal words before after line_end behind whole r;
}
