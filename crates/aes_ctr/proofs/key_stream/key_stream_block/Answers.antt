use Rattle.std.proofs.Common.{ap, ◌∙◌}
use Rattle.aes_ctr.specs.Aes.{aes256}
use Rattle.aes_ctr.specs.CounterMode.{key_stream_block}
use Rattle.aes_ctr.proofs.key_stream.key_stream_block.Goals as goal

pub returns : goal.returns
unfolding key_stream_block
returns c = record { block = c.block.ensures.cipher_text ∙ ap (aes256 c.args.aes.now) c.counter_block.ensures.block }
