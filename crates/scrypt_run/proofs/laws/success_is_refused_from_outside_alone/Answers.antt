use Rattle.scrypt_run.proofs.Successes.{refused_from_outside}
use Rattle.scrypt_run.proofs.laws.success_is_refused_from_outside_alone.Goals as goal

pub returns : goal.returns
returns c = record { outside = refused_from_outside }
