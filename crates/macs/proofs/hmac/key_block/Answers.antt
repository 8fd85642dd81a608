use Rattle.std.proofs.Common.{ℕ, length}
use Rattle.std.proofs.lemmas.List.{drop-replicate}
use Rattle.macs.proofs.Keys.{key_block-short, key_block-long}
use Rattle.macs.proofs.hmac.key_block.Goals as goal

pub returns-then-key-le-BLOCK_LEN : goal.returns-then-key-le-BLOCK_LEN
returns-then-key-le-BLOCK_LEN c =
    record {
      block = rw (c.copy_from_slice.ensures.after, drop-replicate {X = ℕ} (length c.args.key.now) 64 0, key_block-short c.args.key.now c.if-key-le-BLOCK_LEN.true);
    }

pub returns-else-key-le-BLOCK_LEN : goal.returns-else-key-le-BLOCK_LEN
returns-else-key-le-BLOCK_LEN c =
    record {
      block = rw (c.copy_from_slice-else-key-le-BLOCK_LEN.ensures.after, c.digest-digest.ensures, key_block-long c.args.key.now c.if-key-le-BLOCK_LEN.false);
    }
