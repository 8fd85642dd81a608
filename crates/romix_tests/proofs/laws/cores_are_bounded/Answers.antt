use Rattle.romix.proofs.Work.{cores_are_bounded}
use Rattle.romix_tests.proofs.laws.cores_are_bounded.Goals as goal

pub returns : goal.returns
returns c = record { bound = cores_are_bounded }
