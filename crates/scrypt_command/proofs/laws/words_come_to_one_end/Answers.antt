use Rattle.scrypt_command.proofs.WholeRuns.{ends_from_outside, one_end, one_refusal_of_words}
use Rattle.scrypt_command.proofs.laws.words_come_to_one_end.Goals as goal

pub returns : goal.returns
returns c = record { same = one_end; outside = ends_from_outside; refusal = one_refusal_of_words }
