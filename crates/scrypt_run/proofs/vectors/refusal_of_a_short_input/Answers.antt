use Rattle.std.proofs.Common.{refl}
use Rattle.encfile.specs.Front.{format_refusal, file_refusal_before_passphrase}
use Rattle.scrypt_run.proofs.vectors.refusal_of_a_short_input.Goals as goal

pub returns : goal.returns
unfolding format_refusal file_refusal_before_passphrase
returns c = record { short = refl }
