use Rattle.argon2_verify.proofs.OwnInput.{unanswered, unasked, unread}
use Rattle.argon2_verify.proofs.laws.nothing_of_standard_input.Goals as goal

pub returns : goal.returns
returns c = record { unanswered = unanswered; unread = unread; unasked = unasked }
