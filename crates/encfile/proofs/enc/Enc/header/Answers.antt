use Rattle.std.proofs.Common.{append-nil}
use Rattle.aes_ctr.specs.CounterMode.{counter_mode_from}
use Rattle.encfile.specs.EncryptedFile.{body, head}
use Rattle.encfile.proofs.enc.Enc.header.Goals as goal

pub returns-clause-head : goal.returns-clause-head
returns-clause-head c passphrase salt costs text h = h.state.header

pub returns-clause-body : goal.returns-clause-body
unfolding body counter_mode_from
returns-clause-body c passphrase salt costs text h = rw (append-nil (head passphrase salt costs)) h.state.header
