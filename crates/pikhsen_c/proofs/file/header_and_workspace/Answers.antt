use Rattle.std.proofs.Common.{arith, sym}
use Rattle.pikhsen_c.proofs.FrontStatus.{first_is}
use Rattle.pikhsen_c.proofs.file.header_and_workspace.Goals as goal

pub returns-in-Err-clause-refusal : goal.returns-in-Err-clause-refusal
returns-in-Err-clause-refusal g c = record {
  fault = λ _. sym (first_is _ _ _ c.in-Err.ensures.status (omega (arith, c.in-Err.ensures.at_least_22)));
  memory = λ memory. absurd (omega (arith, memory, c.in-Err.ensures.at_least_22));
  at_least_1 = omega (arith, c.in-Err.ensures.at_least_22);
}
