use Rattle.std.proofs.Common.{◌*◌, ◌∙◌, arith, sym}
use Rattle.argon.proofs.WordPlaces.{run_stored}
use Rattle.argon.proofs.block.put_row.Goals as goal

pub returns : goal.returns
returns c = record {
  value = c.put_words.ensures.value ∙ sym (run_stored c.args.block.now c.args.new (16 * c.args.number) 16 c.fits-new.0 (omega arith));
}
