use Rattle.std.proofs.Common.{sym, arith}
use Rattle.argon.proofs.ReferenceSet.{start_last}
use Rattle.argon.proofs.places.reference_set_start.Goals as goal

pub returns-then-slice-eq3 : goal.returns-then-slice-eq3
returns-then-slice-eq3 c = record { value = sym (start_last c.args.segment_len c.args.pass c.args.slice (omega arith) (omega arith)) }
