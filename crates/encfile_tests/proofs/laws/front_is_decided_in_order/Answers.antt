use Rattle.encfile.proofs.Fronts.{front_refusal-order}
use Rattle.encfile_tests.proofs.laws.front_is_decided_in_order.Goals as goal

pub returns : goal.returns
returns c = record { decided = front_refusal-order }
