use Rattle.argon2_verify.proofs.OneEnd.{one_refusal}
use Rattle.argon2_verify.proofs.laws.one_refusal.Goals as goal

pub returns : goal.returns
returns c = record {
  same = λ words before after other q r told told_too inside inside_too.
      (one_refusal words before after other q r inside inside_too told told_too).0;
  state = λ words before after other q r told told_too inside inside_too.
      (one_refusal words before after other q r inside inside_too told told_too).1;
}
