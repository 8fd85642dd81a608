use Rattle.std.proofs.Common.{ℕ, ◌<◌, ◌++◌, List, drop, take}
use Rattle.aes_ctr.specs.Aes.{state_after}
use Rattle.aes_ctr.specs.Planes.{AreKeyPlanes, IsAesBlock, BitPlanesHoldBytes, plane}
use Rattle.aes_ctr.proofs.cipher_sixteen.cipher_sixteen.Given as goal

abbrev pub invariant-rounds : goal.invariant-rounds
invariant-rounds l = (words : List (List ℕ)) → AreKeyPlanes words l.keys → (b : ℕ) → b < 8
    → IsAesBlock (state_after words (take 16 (plane l.fn.pairs b)) l.done) × IsAesBlock (state_after words (drop 16 (plane l.fn.pairs b)) l.done)
    × BitPlanesHoldBytes b l.state (state_after words (take 16 (plane l.fn.pairs b)) l.done ++ state_after words (drop 16 (plane l.fn.pairs b)) l.done)
