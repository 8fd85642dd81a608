use Rattle.aes_ctr.specs.Aes.{aes256}
use Rattle.aes_ctr.proofs.block_cipher.Aes256.block.Goals as goal

pub returns : goal.returns
unfolding aes256
returns c = record { cipher_text = rw (c.cipher.ensures.cipher_text, ← c.self.view_is, ← c.self.invariant) }
