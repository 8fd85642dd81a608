use Rattle.std.proofs.Common.{arith}
use Rattle.blake.proofs.Compressing.{vector_is}
use Rattle.blake.proofs.compression.work_vector.Goals as goal
use Rattle.blake.proofs.compression.work_vector.Goals.{then-last, else-last}

pub returns : goal.returns
returns c = record {
  vector =
      vector_is c.args.state.now c.args.count c.if-last.result c.args.last (omega arith) (omega arith)
      (elim c.if-last.branch [ then-last w ↦ rw (w.if-last.true) w.result-is | else-last w ↦ rw (w.if-last.false) w.result-is ]);
}
