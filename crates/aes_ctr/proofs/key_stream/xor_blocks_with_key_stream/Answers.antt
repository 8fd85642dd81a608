use Rattle.std.proofs.Common.{◌*◌, ℕ, arith}
use Rattle.aes_ctr.proofs.KeyStream.{append-counter_mode_from}
use Rattle.aes_ctr.proofs.key_stream.xor_blocks_with_key_stream.Goals as goal

pub returns : goal.returns
returns c =
    let n : ℕ = c.args.number in
    let parts = c.split_at_mut-groups.ensures in
    record {
      xored =
          append-counter_mode_from c.args.aes.now (16 * n) _ _ c.args.bytes.now _ _ (omega arith) (omega arith)
          (rw parts.front at (c.xor_groups_of_sixteen.ensures.xored c.args.aes.now c.requires.planes))
          (rw parts.back at c.xor_single_blocks.ensures.xored);
    }
