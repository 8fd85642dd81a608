use Rattle.std.proofs.Common.{append-nil}
use Rattle.macs.specs.Hmac.{Holds}
use Rattle.macs.specs.HmacSha256.{inner_key}
use Rattle.macs.proofs.hmac.Hmac.new.Goals as goal

pub returns : goal.returns
unfolding Holds
returns c =
    record {
      empty = (
        rw (append-nil (inner_key c.args.key.now), ← c.key_block-block.ensures.block, ← c.xored_with_byte.ensures.bytes, ← c.as_slice.ensures) (c.update.ensures _ c.new-inner.ensures),
        rw (← c.key_block-block.ensures.block, ← c.xored_with_byte-2.ensures.bytes, ← c.as_slice-2.ensures) (c.update-2.ensures _ c.new-outer.ensures),
      );
    }
