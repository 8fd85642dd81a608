use Rattle.std.proofs.Common.{ℕ, ◌*◌, List}
use Rattle.aes_ctr.specs.Aes.{key_schedule}
use Rattle.aes_ctr.specs.Planes.{AreKeyPlanes}
use Rattle.aes_ctr.proofs.KeyStream.{IsXoredTo}
use Rattle.aes_ctr.proofs.key_stream.xor_groups_of_sixteen.Given as goal

abbrev pub invariant-loop-i : goal.invariant-loop-i
invariant-loop-i l =
    (key : List ℕ) → AreKeyPlanes (key_schedule key) l.planes → IsXoredTo key l.number (256 * l.i) l.fn.bytes l.bytes
