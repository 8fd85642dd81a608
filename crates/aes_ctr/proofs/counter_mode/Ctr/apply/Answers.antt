use Rattle.std.proofs.Common.{ℕ, List, ap, arith, length, ◌∙◌}
use Rattle.aes_ctr.proofs.KeyStream.{append-counter_mode_from}
use Rattle.aes_ctr.proofs.counter_mode.Ctr.apply.Goals as goal

pub returns-else-bytes-left_of_block : goal.returns-else-bytes-left_of_block
returns-else-bytes-left_of_block c =
    let key : List ℕ = c.args.self.now.key in
    let outer = c.split_at_mut-head.ensures in
    let inner = c.split_at_mut-blocks.ensures in
    let head = c.apply_bytes-else-bytes-left_of_block.ensures.applied in
    let blocks = c.xor_whole_blocks.ensures.applied in
    let tail = c.apply_bytes-else-bytes-left_of_block-2.ensures.applied in
    record {
      applied = record {
        xored = append-counter_mode_from key _ _ _ c.args.bytes.now _ _ (omega arith) (omega arith) (rw outer.front at head.xored)
            (append-counter_mode_from key _ _ _ _ _ _ (omega (arith, ap length outer.back)) (omega (arith, ap length outer.back)) (rw (head.key, inner.front, outer.back) at blocks.xored)
            (rw (blocks.key, head.key, inner.back, outer.back) at tail.xored));
        position = omega (arith, head.position, blocks.position, tail.position, outer.front_len, outer.back_len, inner.front_len, inner.back_len);
        key = tail.key ∙ (blocks.key ∙ head.key);
      };
    }
