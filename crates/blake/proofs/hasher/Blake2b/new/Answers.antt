use Rattle.std.proofs.Common.{refl}
use Rattle.blake.specs.Blake2b.{state_after}
use Rattle.blake.specs.State.{Holds}
use Rattle.blake.proofs.hasher.Blake2b.new.Goals as goal

pub returns-clause-holds : goal.returns-clause-holds
unfolding Holds state_after
returns-clause-holds c = (refl, refl, record { state = refl; length_is = refl; last_block = refl })
