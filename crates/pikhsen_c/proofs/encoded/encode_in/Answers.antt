use Rattle.std.proofs.Common.{refl, sym}
use Rattle.pikhsen_c.proofs.FrontStatus.{first_is}
use Rattle.pikhsen_c.proofs.encoded.encode_in.Goals as goal

pub returns-in-Err-clause-refusal : goal.returns-in-Err-clause-refusal
returns-in-Err-clause-refusal g c = record {
  fault = λ _. sym (first_is _ _ _ c.in-Err.ensures.refusal.status c.in-Err.ensures.refusal.early.some);
  memory = λ memory. absurd (c.in-Err.ensures.refusal.early.not_memory memory);
  untouched = λ _. refl;
  nothing = λ _. refl;
}
