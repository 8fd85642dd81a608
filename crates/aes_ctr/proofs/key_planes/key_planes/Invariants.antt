use Rattle.std.proofs.Common.{◌≡◌, ℕ, ◌/◌, ◌%◌, ◌<◌, length}
use Rattle.aes_ctr.specs.Planes.{IsAesBlock, bits, plane, round_key}
use Rattle.aes_ctr.proofs.key_planes.key_planes.Given as goal

abbrev pub invariant-planes : goal.invariant-planes
invariant-planes l = record {
  long : length l.planes ≡ 120;
  held : (i : ℕ) → i < l.i → IsAesBlock (round_key l.words (i / 8))
      × ((b : ℕ) → b < 8 → bits b (plane l.planes i) ≡ bits (i % 8) (round_key l.words (i / 8)));
}
