use Rattle.argon.proofs.FourWords.{shifts_rotate}
use Rattle.argon.proofs.permutation.rotated.Goals as goal

pub returns : goal.returns
returns c = record {
  value = shifts_rotate c.args.count c.requires.range.0 c.requires.range.1 c.args.words c.fits-words.0;
}
