use Rattle.std.proofs.Common.{ap, ◌++◌}
use Rattle.encfile.specs.EncryptedFile.{body, encrypted_file}
use Rattle.encfile.proofs.enc.Enc.finish.Goals as goal

pub returns : goal.returns
unfolding encrypted_file body
returns c = record {
  code = λ passphrase salt costs text h. ap (λ code. body passphrase salt costs text ++ code) (c.finish.ensures.code _ _ h.state.code);
}
