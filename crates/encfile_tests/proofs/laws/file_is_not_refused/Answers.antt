use Rattle.encfile.proofs.Fronts.{front_refusal-encrypted_file}
use Rattle.encfile_tests.proofs.laws.file_is_not_refused.Goals as goal

pub returns : goal.returns
returns c = record { none = front_refusal-encrypted_file }
