use Rattle.scrypt_command.proofs.Existence.{decryption_exists, encryption_exists, inspection_exists}
use Rattle.scrypt_command.proofs.laws.success_exists.Goals as goal

pub returns : goal.returns
returns c = record { dec = decryption_exists; enc = encryption_exists; info = inspection_exists }
