use Rattle.romix.proofs.Work.{bound_of_whole, fault_of_whole, table_of_whole}
use Rattle.romix_tests.proofs.laws.whole_table_is_that_of_the_costs.Goals as goal

pub returns : goal.returns
returns c = record { table = table_of_whole; bound = bound_of_whole; fault = fault_of_whole }
