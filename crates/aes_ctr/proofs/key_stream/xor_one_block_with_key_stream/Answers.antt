use Rattle.std.proofs.Common.{◌∙◌}
use Rattle.aes_ctr.proofs.KeyStream.{zip2-key_stream_block}
use Rattle.aes_ctr.proofs.key_stream.xor_one_block_with_key_stream.Goals as goal

pub returns : goal.returns
returns c = record {
  xored =
      (rw c.key_stream_block.ensures.block at c.xor_into.ensures.xored)
      ∙ zip2-key_stream_block c.args.aes.now c.args.number c.args.bytes.now c.requires.one_block;
}
