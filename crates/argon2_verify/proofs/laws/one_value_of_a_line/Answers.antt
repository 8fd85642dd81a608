use Rattle.argon2_verify.proofs.OneEnd.{says_one}
use Rattle.argon2_verify.proofs.laws.one_value_of_a_line.Goals as goal

pub returns : goal.returns
returns c = record { unique = says_one }
