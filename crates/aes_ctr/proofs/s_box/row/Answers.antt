use Rattle.aes_ctr.proofs.Lookup.{take-table}
use Rattle.aes_ctr.proofs.s_box.row.Goals as goal

pub returns : goal.returns
returns c = record { entries = rw c.s_box.ensures.entries (take-table c.args.n c.requires.row) }
