use Rattle.aes_ctr.proofs.KeyStream.{counter_mode_from-twice}
use Rattle.aes_ctr_tests.proofs.laws.counter_mode_twice.Goals as goal

pub returns : goal.returns
returns c = record { twice = λ key text i. counter_mode_from-twice key i text }
