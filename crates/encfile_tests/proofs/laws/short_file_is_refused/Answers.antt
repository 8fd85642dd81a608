use Rattle.encfile.proofs.Fronts.{front_refusal-short}
use Rattle.encfile_tests.proofs.laws.short_file_is_refused.Goals as goal

pub returns : goal.returns
returns c = record { short = front_refusal-short }
