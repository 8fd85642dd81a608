use Rattle.argon2_verify.proofs.TextLengths.{texts_are_short}
use Rattle.argon2_verify.proofs.laws.texts_in_range_are_short.Goals as goal

pub returns : goal.returns
returns c = record { short = texts_are_short }
