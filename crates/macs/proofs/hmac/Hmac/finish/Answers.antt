use Rattle.std.proofs.Common.{◌++◌}
use Rattle.macs.specs.Hmac.{Holds}
use Rattle.macs.specs.HmacSha256.{hmac_sha256, inner_key, outer_key}
use Rattle.macs.proofs.hmac.Hmac.finish.Goals as goal

pub returns : goal.returns
unfolding Holds hmac_sha256
returns c =
    record {
      code = λ key message h.
          let inner = c.finalize.ensures (inner_key key ++ message) h.0 in
          let outer = c.update.ensures (outer_key key) h.1 in
          rw (c.finalize-2.ensures _ outer, c.as_slice.ensures, inner);
    }
