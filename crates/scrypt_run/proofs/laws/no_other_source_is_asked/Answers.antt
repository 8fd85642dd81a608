use Rattle.scrypt_run.proofs.Asking.{asks_at_refusal, asks_at_success}
use Rattle.scrypt_run.proofs.laws.no_other_source_is_asked.Goals as goal

pub returns : goal.returns
returns c = record {
  succeeds = asks_at_success;
  refused = asks_at_refusal;
}
