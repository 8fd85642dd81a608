use Rattle.encfile.proofs.Fronts.{front_refusal-calls}
use Rattle.encfile_tests.proofs.laws.front_is_decided_by_calls.Goals as goal

pub returns : goal.returns
returns c = record { decided = front_refusal-calls }
