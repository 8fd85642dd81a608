use Rattle.scrypt_run.proofs.Successes.{one_success}
use Rattle.scrypt_run.proofs.laws.one_success.Goals as goal

pub returns : goal.returns
returns c = record { same = one_success }
