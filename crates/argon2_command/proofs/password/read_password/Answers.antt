use Rattle.std.proofs.Common.{Some, [], refl, replicate}
use Rattle.argon2_command.proofs.password.read_password.Goals as goal

pub returns-in-0-clause-some_input : goal.returns-in-0-clause-some_input
returns-in-0-clause-some_input g c = (Some [], refl)

pub returns-in_default-len-clause-some_input : goal.returns-in_default-len-clause-some_input
returns-in_default-len-clause-some_input g c = (Some (replicate 128 0), refl)
