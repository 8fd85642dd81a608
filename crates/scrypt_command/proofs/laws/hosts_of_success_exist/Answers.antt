use Rattle.scrypt_command.proofs.Existence.{encryptable_host, openable_host}
use Rattle.scrypt_command.proofs.laws.hosts_of_success_exist.Goals as goal

pub returns : goal.returns
returns c = record { dec = openable_host; enc = encryptable_host }
