use Rattle.aes_ctr.proofs.block_cipher.Aes256.new.Goals as goal

pub invariant_of-result : goal.invariant_of-result
invariant_of-result c = rw c.key_expansion.ensures.key c.key_expansion.ensures.schedule
