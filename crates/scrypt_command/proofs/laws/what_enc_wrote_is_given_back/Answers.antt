use Rattle.scrypt_command.proofs.BackAgain.{back_again}
use Rattle.scrypt_command.proofs.laws.what_enc_wrote_is_given_back.Goals as goal

pub returns : goal.returns
returns c = record { back = back_again }
