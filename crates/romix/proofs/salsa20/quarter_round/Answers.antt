use Rattle.std.proofs.Common.{refl}
use Rattle.romix.specs.Salsa20.{quarter_round}
use Rattle.romix.proofs.salsa20.quarter_round.Goals as goal

pub returns : goal.returns
unfolding quarter_round
returns c =
    record {
      lanes = λ j h.
          rw (
            c.quarter_step-first.ensures.lanes j h,
            c.quarter_step-fourth.ensures.lanes j h,
            c.quarter_step-third.ensures.lanes j h,
            c.quarter_step-second.ensures.lanes j h,
          ) refl;
    }
