use Rattle.std.proofs.Common.{refl}
use Rattle.romix.specs.SparseCosts.{whole}
use Rattle.romix.proofs.Work.{cores_of_whole_table}
use Rattle.romix_tests.proofs.laws.cores_of_a_whole_table.Goals as goal

pub returns : goal.returns
returns c = record { cores = λ password salt costs. cores_of_whole_table password salt (whole costs) refl }
