use Rattle.macs.proofs.Parts.{key-block}
use Rattle.macs_tests.proofs.laws.key_is_its_blocks.Goals as goal

pub returns : goal.returns
returns c = record { block = key-block }
