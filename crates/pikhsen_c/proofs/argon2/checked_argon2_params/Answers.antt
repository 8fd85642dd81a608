use Rattle.pikhsen_c.proofs.FrontStatus.{first_is}
use Rattle.pikhsen_c.proofs.argon2.checked_argon2_params.Goals as goal

pub returns-in-Err-clause-refusal : goal.returns-in-Err-clause-refusal
returns-in-Err-clause-refusal c = record {
  status = first_is _ _ _ c.in-Err.ensures.refusal.status c.in-Err.ensures.refusal.early.some;
  early = c.in-Err.ensures.refusal.early;
}
