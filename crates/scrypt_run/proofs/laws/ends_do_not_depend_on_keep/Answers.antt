use Rattle.scrypt_run.proofs.Keeping.{refused_with_any, succeeds_with_any}
use Rattle.scrypt_run.proofs.laws.ends_do_not_depend_on_keep.Goals as goal

pub returns : goal.returns
returns c = record { succeeds = succeeds_with_any; refused = refused_with_any }
