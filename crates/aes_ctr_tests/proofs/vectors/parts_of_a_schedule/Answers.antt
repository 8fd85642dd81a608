use Rattle.std.proofs.Common.{refl}
use Rattle.aes_ctr.specs.Aes.{key_words}
use Rattle.aes_ctr.specs.Planes.{round_key}
use Rattle.aes_ctr_tests.proofs.vectors.parts_of_a_schedule.Goals as goal

pub returns : goal.returns
unfolding key_words round_key
returns c = record { key = refl; words = refl; round = refl }
