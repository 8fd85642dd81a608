use Rattle.std.proofs.Common.{◌*◌}
use Rattle.aes_ctr.proofs.KeyStream.{IsXoredTo}
use Rattle.aes_ctr.proofs.key_stream.xor_single_blocks.Given as goal

abbrev pub invariant-loop-i : goal.invariant-loop-i
invariant-loop-i l = IsXoredTo l.fn.aes l.fn.number (16 * l.i) l.fn.bytes l.bytes
