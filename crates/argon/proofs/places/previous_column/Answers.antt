use Rattle.std.proofs.Common.{◌≡◌, ◌+◌, ◌-◌, ◌<◌, arith, sym}
use Rattle.std.proofs.Math.Nat.{add-mod_right, mod-eq_of_lt}
use Rattle.argon.proofs.places.previous_column.Goals as goal

pub returns-then-column-eq0-clause-value : goal.returns-then-column-eq0-clause-value
returns-then-column-eq0-clause-value c =
    let last : c.args.column + c.args.lane_len - 1 ≡ c.args.lane_len - 1 = omega arith in
    let below : c.args.lane_len - 1 < c.args.lane_len = omega arith in
    rw last (sym (mod-eq_of_lt below))

pub returns-else-column-eq0-clause-value : goal.returns-else-column-eq0-clause-value
returns-else-column-eq0-clause-value c =
    let turned : c.args.column + c.args.lane_len - 1 ≡ c.args.column - 1 + c.args.lane_len = omega arith in
    let below : c.args.column - 1 < c.args.lane_len = omega arith in
    rw (turned, add-mod_right (c.args.column - 1) c.args.lane_len) (sym (mod-eq_of_lt below))
