use Rattle.std.proofs.Common.{◌*◌, arith}
use Rattle.four_words.proofs.Runs.{sixteen_read}
use Rattle.romix.proofs.lanes.Lanes.load.Goals as goal

pub returns : goal.returns
returns c = record { words = sixteen_read c.args.row.now (16 * c.args.i) (omega arith) }
