use Rattle.argon.proofs.ReadPlaces.{reads_finished}
use Rattle.argon_tests.proofs.laws.other_lanes_are_read_outside_the_slice.Goals as goal

pub returns : goal.returns
returns c = record { finished = reads_finished }
