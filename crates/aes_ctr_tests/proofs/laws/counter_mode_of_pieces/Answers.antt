use Rattle.aes_ctr.proofs.KeyStream.{counter_mode_from-append}
use Rattle.aes_ctr_tests.proofs.laws.counter_mode_of_pieces.Goals as goal

pub returns : goal.returns
returns c = record { pieces = λ key first second i. counter_mode_from-append key i first second }
