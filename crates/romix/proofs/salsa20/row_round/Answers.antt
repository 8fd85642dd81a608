use Rattle.std.proofs.Common.{lit<}
use Rattle.romix.specs.Salsa20.{quarter_round_at, quarter_rounds}
use Rattle.romix.proofs.salsa20.row_round.Goals as goal

pub returns : goal.returns
unfolding quarter_rounds quarter_round_at
returns c =
    let q = c.quarter_round.ensures.lanes in
    let to = c.turned.ensures in
    let back = c.turned-2.ensures in
    let q0 = rw (to.first, to.second, to.third, to.fourth) at (q 0 (lit< tt)) in
    let q1 = rw (to.first, to.second, to.third, to.fourth) at (q 1 (lit< tt)) in
    let q2 = rw (to.first, to.second, to.third, to.fourth) at (q 2 (lit< tt)) in
    let q3 = rw (to.first, to.second, to.third, to.fourth) at (q 3 (lit< tt)) in
    record { words = rw (back.first, back.second, back.third, back.fourth, ← q0, ← q1, ← q2, ← q3) }
