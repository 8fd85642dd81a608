use Rattle.argon2_verify.proofs.OneEnd.{one_answer, refused_from_outside, same_state}
use Rattle.argon2_verify.proofs.laws.one_answer.Goals as goal

pub returns : goal.returns
returns c = record { not_both = one_answer; state = same_state; refused_from_outside = refused_from_outside }
