use Rattle.argon2_verify.proofs.Existence.{differs, verifies}
use Rattle.argon2_verify.proofs.laws.answer_exists.Goals as goal

pub returns : goal.returns
returns c = record { verifies = verifies; differs = differs }
