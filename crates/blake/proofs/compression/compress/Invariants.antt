use Rattle.std.proofs.Common.{◌≡◌, length}
use Rattle.blake.specs.Words.{words}
use Rattle.blake.specs.Blake2b.{rounds, work_vector}
use Rattle.blake.proofs.compression.compress.Given as goal

abbrev pub invariant-loop-i : goal.invariant-loop-i
invariant-loop-i l =
    (length l.vector ≡ 16) × (l.vector ≡ rounds (words 16 l.block) (work_vector l.state l.count l.last) l.i)
