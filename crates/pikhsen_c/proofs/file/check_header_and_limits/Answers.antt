use Rattle.std.proofs.Common.{arith}
use Rattle.pikhsen_c.proofs.FrontStatus.{first_is}
use Rattle.pikhsen_c.proofs.file.check_header_and_limits.Goals as goal

pub returns-in-Err : goal.returns-in-Err
returns-in-Err c = record {
  refusal = record {
    status = first_is _ _ _ c.in-Err.ensures.status (omega (arith, c.in-Err.ensures.at_least_22));
    early = record {
      some = omega (arith, c.in-Err.ensures.at_least_22);
      not_memory = λ memory. omega (arith, memory, c.in-Err.ensures.at_least_22);
      not_passphrase = λ wrong. omega (arith, wrong, c.in-Err.ensures.below);
    };
  };
}
