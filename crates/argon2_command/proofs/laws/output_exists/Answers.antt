use Rattle.argon2_command.proofs.Existence.{some_success, success_exists}
use Rattle.argon2_command.proofs.laws.output_exists.Goals as goal

pub returns : goal.returns
returns c = record { line = success_exists; some = some_success }
