use Rattle.scrypt_run.proofs.Successes.{wrote_an_encryption}
use Rattle.scrypt_run.proofs.laws.what_enc_wrote_is_an_encryption.Goals as goal

pub returns : goal.returns
returns c = record { encryption = wrote_an_encryption }
