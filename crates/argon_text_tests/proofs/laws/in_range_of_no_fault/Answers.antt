use Rattle.argon_text.proofs.RangeFaults.{in_range_of_none}
use Rattle.argon_text_tests.proofs.laws.in_range_of_no_fault.Goals as goal

pub returns : goal.returns
returns c = record { none = in_range_of_none }
