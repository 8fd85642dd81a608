use Rattle.aes_ctr.proofs.KeyStream.{slice_index-counter_mode_from}
use Rattle.aes_ctr_tests.proofs.laws.byte_of_counter_mode.Goals as goal

pub returns : goal.returns
returns c = record { byte = λ key text i j within. slice_index-counter_mode_from key i text j within }
