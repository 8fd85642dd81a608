use Rattle.aes_ctr.proofs.block_cipher.Aes256.key_planes.Goals as goal

pub returns : goal.returns
returns c = record { planes = rw (← c.self.view_is, ← c.self.invariant) c.key_planes.ensures.planes }
