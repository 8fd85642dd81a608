use Rattle.scrypt_run.proofs.Openings.{wrote_what_was_encrypted}
use Rattle.scrypt_run.proofs.laws.what_dec_wrote_was_encrypted.Goals as goal

pub returns : goal.returns
returns c = record { encrypted = wrote_what_was_encrypted }
