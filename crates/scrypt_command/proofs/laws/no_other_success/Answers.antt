use Rattle.scrypt_command.proofs.OtherBytes.{no_other_file, no_other_line, no_other_text, none_unless_encrypted}
use Rattle.scrypt_command.proofs.laws.no_other_success.Goals as goal

pub returns : goal.returns
returns c = record { other_text = no_other_text; not_encrypted = none_unless_encrypted; other_file = no_other_file; other_line = no_other_line }
