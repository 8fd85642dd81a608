use Rattle.std.proofs.Common.{◌≡◌, ◌+◌, ◌-◌, ◌*◌, map, get_or, []}
use Rattle.std.specs.List.{range_with_len}
use Rattle.argon.specs.Argon2.{xor_of_column_blocks}
use Rattle.argon.proofs.tag.xor_last_column.Given as goal

abbrev pub invariant-loop-lane : goal.invariant-loop-lane
invariant-loop-lane l =
    l.last ≡ xor_of_column_blocks (map (λ k. get_or l.blocks (k * l.lane_len + (l.lane_len - 1)) []) (range_with_len 0 l.lane))
