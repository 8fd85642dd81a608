use Rattle.std.proofs.Common.{refl}
use Rattle.std.specs.Fmt.{digits}
use Rattle.scrypt_run.proofs.vectors.costs_lines.Goals as goal

pub returns : goal.returns
unfolding digits
returns c = record { of_small_costs = refl; of_large_costs = refl; of_an_input = refl }
