use Rattle.std.proofs.Common.{◌≡◌, ℕ, ◌≤◌, length, slice_index, take}
use Rattle.blake.specs.Blake2b.{state_xored_with_halves}
use Rattle.blake.proofs.compression.xor_halves_into_state.Given as goal

abbrev pub invariant-halves : goal.invariant-halves
invariant-halves l =
    (length l.state ≡ 8) × (take l.i l.state ≡ state_xored_with_halves l.i l.fn.state l.v)
    × ((k : ℕ) → l.i ≤ k → slice_index l.state k ≡ slice_index l.fn.state k)
