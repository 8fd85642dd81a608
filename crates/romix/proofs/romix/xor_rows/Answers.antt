use Rattle.std.proofs.Common.{arith}
use Rattle.romix.proofs.XoredBlocks.{block_left, block_xored, same_xored}
use Rattle.romix.proofs.romix.xor_rows.Goals as goal

pub loop-i-preserved : goal.loop-i-preserved
loop-i-preserved c =
    let row = c.args.row.now in
    let other = c.args.other.now in
    record {
      done = block_xored row other c.loop-i.row c.store.new.row _ c.loop-i.i (omega arith) (omega arith) c.loop-i.invariant.done c.loop-i.invariant.left
          (same_xored c.load.ensures.words c.load-in-loop-i.ensures.words c.xor-xored.ensures.rows) c.store.ensures.front;
      left = block_left row c.loop-i.row c.store.new.row c.loop-i.i c.loop-i.invariant.left c.store.ensures.rest;
    }
