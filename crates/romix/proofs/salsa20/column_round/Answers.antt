use Rattle.std.proofs.Common.{lit<}
use Rattle.romix.specs.Salsa20.{quarter_round_at, quarter_rounds}
use Rattle.romix.proofs.salsa20.column_round.Goals as goal

pub returns : goal.returns
unfolding quarter_rounds quarter_round_at
returns c =
    let q = c.quarter_round.ensures.lanes in
    record { words = rw (← q 0 (lit< tt), ← q 1 (lit< tt), ← q 2 (lit< tt), ← q 3 (lit< tt)) }
