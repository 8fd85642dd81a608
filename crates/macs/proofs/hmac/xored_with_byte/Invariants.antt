use Rattle.std.proofs.Common.{◌≡◌, ℕ, ◌<◌, length, slice_index, bit_xor}
use Rattle.macs.proofs.hmac.xored_with_byte.Given as goal

abbrev pub invariant-loop-i : goal.invariant-loop-i
invariant-loop-i l = (length l.xored ≡ 64) × ((k : ℕ) → k < l.i → slice_index l.xored k ≡ bit_xor (slice_index l.block k) l.byte)
