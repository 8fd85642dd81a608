use Rattle.std.proofs.Common.{sym}
use Rattle.aes_ctr.proofs.SBox.{sub_byte-entries}
use Rattle.aes_ctr.proofs.s_box.s_box.Goals as goal

pub returns : goal.returns
returns c = record { entries = sym sub_byte-entries }
