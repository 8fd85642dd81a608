use Rattle.argon2_program.proofs.Existence.{no_other_program_line, program_line}
use Rattle.argon2_program.proofs.laws.program_output_exists.Goals as goal

pub returns : goal.returns
returns c = record { line = program_line; other_line = no_other_program_line }
