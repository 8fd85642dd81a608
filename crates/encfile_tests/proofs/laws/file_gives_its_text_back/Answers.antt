use Rattle.encfile.proofs.Files.{EncryptionRoundTrips-is}
use Rattle.encfile_tests.proofs.laws.file_gives_its_text_back.Goals as goal

pub returns : goal.returns
returns c = record { back = EncryptionRoundTrips-is }
