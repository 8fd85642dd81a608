use Rattle.std.proofs.Common.{◌+◌, ◌-◌, ◌*◌, get_or, []}
use Rattle.argon.proofs.LastColumn.{xored_more}
use Rattle.argon.proofs.tag.xor_last_column.Goals as goal

pub loop-lane-preserved : goal.loop-lane-preserved
loop-lane-preserved c =
    xored_more (λ k. get_or c.args.blocks.now (k * c.args.lane_len + (c.args.lane_len - 1)) []) c.loop-lane.lane
    c.loop-lane.last c.xor_into.new.into c.loop-lane.invariant c.xor_into.ensures.value
