use Rattle.encfile.proofs.Files.{length-encrypted_file}
use Rattle.encfile_tests.proofs.laws.length_of_file.Goals as goal

pub returns : goal.returns
returns c = record { len = length-encrypted_file }
