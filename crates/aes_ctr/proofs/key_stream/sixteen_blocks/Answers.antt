use Rattle.std.proofs.Common.{◌≡◌, ◌+◌, ◌*◌, ◌++◌, [], ◌∷◌, add-zero, ap, refl, ◌∙◌}
use Rattle.aes_ctr.specs.Aes.{aes256, cipher, key_schedule}
use Rattle.aes_ctr.specs.CounterMode.{counter_block, key_stream_block}
use Rattle.aes_ctr.specs.Planes.{plane}
use Rattle.aes_ctr.specs.Inside.PlaneSteps.{applied_to_both_blocks}
use Rattle.aes_ctr.proofs.Held.{below_eight}
use Rattle.aes_ctr.proofs.Pairs.{applied_to_both_blocks-append}
use Rattle.aes_ctr.proofs.key_stream.sixteen_blocks.Goals as goal

pub returns : goal.returns
unfolding key_stream_block aes256
returns c = record {
  stream =
      λ key planes b small.
      c.cipher_sixteen.ensures.cipher_texts (key_schedule key) planes b small
      ∙ ap (applied_to_both_blocks (cipher (key_schedule key)))
      (below_eight (λ b. plane (c.counter_blocks.result ∷ c.counter_blocks-2.result ∷ c.counter_blocks-3.result ∷ c.counter_blocks-4.result ∷ c.counter_blocks-5.result ∷ c.counter_blocks-6.result ∷ c.counter_blocks-7.result ∷ c.counter_blocks-8.result ∷ []) b ≡ counter_block (c.args.number + 2 * b) ++ counter_block (c.args.number + 2 * b + 1))
      (rw (add-zero c.args.number) c.counter_blocks.ensures.blocks) c.counter_blocks-2.ensures.blocks c.counter_blocks-3.ensures.blocks c.counter_blocks-4.ensures.blocks
      c.counter_blocks-5.ensures.blocks c.counter_blocks-6.ensures.blocks c.counter_blocks-7.ensures.blocks c.counter_blocks-8.ensures.blocks b small)
      ∙ applied_to_both_blocks-append (cipher (key_schedule key)) (counter_block (c.args.number + 2 * b)) (counter_block (c.args.number + 2 * b + 1)) refl;
}
