use Rattle.std.proofs.Common.{◌≡◌, ℕ, ◌+◌, ◌<◌, ◌≤◌, ◌/◌, ◌%◌, bit_xor, slice_index}
use Rattle.aes_ctr.specs.Aes.{key_schedule}
use Rattle.aes_ctr.specs.Planes.{AreKeyPlanes}
use Rattle.aes_ctr.specs.CounterMode.{key_stream, key_stream_block}
use Rattle.aes_ctr.proofs.counter_mode.Ctr.apply_bytes.Given as goal

abbrev pub invariant-loop-byte : goal.invariant-loop-byte
invariant-loop-byte l = record {
  place : l.self-inside.position ≡ l.fn.self.position + l.byte-index;
  key : l.self-inside.aes ≡ l.fn.self.key;
  planes : AreKeyPlanes (key_schedule l.self-inside.aes) l.self-inside.planes;
  kept : 0 < l.self-inside.position % 16 → l.self-inside.stream ≡ key_stream_block l.fn.self.key (l.self-inside.position / 16);
  done : (k : ℕ) → k < l.byte-index → slice_index l.bytes k ≡ bit_xor (slice_index l.fn.bytes k) (key_stream l.fn.self.key (l.fn.self.position + k));
  left : (k : ℕ) → l.byte-index ≤ k → slice_index l.bytes k ≡ slice_index l.fn.bytes k;
}
