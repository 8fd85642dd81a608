use Rattle.scrypt_program.proofs.OtherSystems.{none_old, none_unsynced, none_with_other_text}
use Rattle.scrypt_program.proofs.laws.no_other_program_success.Goals as goal

pub returns : goal.returns
returns c = record { unsynced = none_unsynced; old = none_old; other_text = none_with_other_text }
