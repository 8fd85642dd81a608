use Rattle.std.proofs.Common.{◌*◌, ◌∙◌, sym, arith}
use Rattle.argon.proofs.WordPlaces.{run_read}
use Rattle.argon.proofs.block.row.Goals as goal

pub returns : goal.returns
returns c = record { value = c.words_from.ensures.value ∙ sym (run_read c.args.block.now (16 * c.args.number) 16 (omega arith)) }
