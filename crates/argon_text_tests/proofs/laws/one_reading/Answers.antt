use Rattle.argon_text.proofs.Readings.{one_reading}
use Rattle.argon_text_tests.proofs.laws.one_reading.Goals as goal

pub returns : goal.returns
returns c = record { unique = one_reading }
