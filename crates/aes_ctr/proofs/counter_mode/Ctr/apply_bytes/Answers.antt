use Rattle.std.proofs.Common.{◌≡◌, ℕ, List, ◌+◌, ◌/◌, ◌<◌, ◌≢◌, length, arith, ap, ◌∙◌, below_more, get_or-set_other, get_or-set_same}
use Rattle.aes_ctr.specs.CounterMode.{key_stream_block}
use Rattle.aes_ctr.proofs.KeyStream.{counter_mode_from_each, slice_index-key_stream_block}
use Rattle.aes_ctr.proofs.counter_mode.Ctr.apply_bytes.Goals as goal

pub loop-byte-preserved : goal.loop-byte-preserved
loop-byte-preserved c =
    let position : ℕ = c.loop-byte.self-inside.position in
    let key : List ℕ = c.args.self.now.key in
    let i : ℕ = c.loop-byte.byte-index in
    let block : c.refresh.new.stream ≡ key_stream_block key (position / 16) =
    c.refresh.ensures.stream ∙ ap (λ k. key_stream_block k (position / 16)) c.loop-byte.invariant.key in
    let byte = slice_index-key_stream_block key c.refresh.new.stream (c.args.self.now.position + i) position block c.loop-byte.invariant.place in
    let within : i < length c.loop-byte.bytes = omega arith in
    record {
      place = omega arith;
      key = c.loop-byte.invariant.key;
      planes = c.loop-byte.invariant.planes;
      kept = λ h. let same : (position + 1) / 16 ≡ position / 16 = omega arith in rw same block;
      done = below_more _ _
          (λ j h. let ne : j ≢ i = omega arith in rw get_or-set_other (c.loop-byte.invariant.done j h))
          (rw (get_or-set_same, c.loop-byte.invariant.left i (omega arith), byte));
      left = λ j h. let ne : j ≢ i = omega arith in rw get_or-set_other (c.loop-byte.invariant.left j (omega arith));
    }

pub returns : goal.returns
returns c = record {
  applied = record {
    xored = counter_mode_from_each _ _ c.args.bytes.now c.loop-byte.bytes (omega arith) (λ k h. c.loop-byte.invariant.done k (omega arith));
    position = omega (arith, c.loop-byte.invariant.place);
    key = c.loop-byte.invariant.key;
  };
}

pub invariant_of-self : goal.invariant_of-self
invariant_of-self c = (c.loop-byte.invariant.planes, λ h. rw c.loop-byte.invariant.key (c.loop-byte.invariant.kept h))
