use Rattle.std.proofs.Common.{append_assoc}
use Rattle.macs.specs.Hmac.{Holds}
use Rattle.macs.proofs.hmac.Hmac.update.Goals as goal

pub returns : goal.returns
unfolding Holds
returns c = record { appended = λ key message h. (rw append_assoc at (c.update.ensures _ h.0), h.1) }
