use Rattle.scrypt_program.proofs.Existence.{decryption_by_program, encryption_by_program, inspection_by_program}
use Rattle.scrypt_program.proofs.laws.program_success_exists.Goals as goal

pub returns : goal.returns
returns c = record { dec = decryption_by_program; enc = encryption_by_program; info = inspection_by_program }
