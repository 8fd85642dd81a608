use Rattle.argon2_command.proofs.Existence.{no_other_line, none_if_refused}
use Rattle.argon2_command.proofs.laws.no_other_output.Goals as goal

pub returns : goal.returns
returns c = record { other_line = no_other_line; refused = none_if_refused }
