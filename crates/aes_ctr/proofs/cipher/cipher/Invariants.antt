use Rattle.std.proofs.Common.{◌≡◌}
use Rattle.aes_ctr.specs.Aes.{state_after}
use Rattle.aes_ctr.proofs.cipher.cipher.Given as goal

abbrev pub invariant-rounds : goal.invariant-rounds
invariant-rounds l = l.state ≡ state_after l.words l.fn.block l.done
