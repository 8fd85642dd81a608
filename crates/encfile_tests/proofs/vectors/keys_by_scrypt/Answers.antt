use Rattle.std.proofs.Common.{refl}
use Rattle.encfile.specs.EncryptedFile.{derived_key}
use Rattle.encfile_tests.proofs.vectors.keys_by_scrypt.Goals as goal

pub returns : goal.returns
unfolding derived_key
returns c = record { key = refl }
