use Rattle.scrypt_run.proofs.Refusals.{one_refusal}
use Rattle.scrypt_run.proofs.laws.one_refusal_from_inside.Goals as goal

pub returns : goal.returns
returns c = record { same = one_refusal }
