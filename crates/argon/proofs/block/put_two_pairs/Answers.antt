use Rattle.argon.proofs.WordPlaces.{pairs_stored_of_vector}
use Rattle.argon.proofs.block.put_two_pairs.Goals as goal

pub returns : goal.returns
returns c = record {
  value = pairs_stored_of_vector c.args.words.now c.args.new c.args.at c.fits-new.0 c.requires.within;
}
