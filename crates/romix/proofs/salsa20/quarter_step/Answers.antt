use Rattle.romix.proofs.FourLanes.{shifts_are_a_step}
use Rattle.romix.proofs.salsa20.quarter_step.Goals as goal

pub returns : goal.returns
returns c =
    record {
      lanes = shifts_are_a_step c.args.k c.requires.low c.requires.high c.args.y c.fits-y.0 c.args.a c.fits-a.0 c.args.b c.fits-b.0;
    }
