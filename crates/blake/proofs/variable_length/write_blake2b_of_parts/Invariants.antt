use Rattle.std.proofs.Common.{◌++◌, length, take}
use Rattle.byteorder.specs.Endian.{little_bytes}
use Rattle.blake.specs.State.{Holds}
use Rattle.blake.specs.LongHash.{joined}
use Rattle.blake.proofs.variable_length.write_blake2b_of_parts.Given as goal

abbrev pub invariant-loop-part : goal.invariant-loop-part
invariant-loop-part l = Holds (length l.out) l.hash (little_bytes 4 l.number ++ joined (take l.part-index l.parts))
