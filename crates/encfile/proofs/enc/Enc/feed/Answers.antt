use Rattle.std.proofs.Common.{ℕ, ◌+◌, ◌<◌, ◌^◌, List, ◌++◌, length, take, drop, arith, ap, subst, length-append}
use Rattle.macs.specs.Hmac.{Holds}
use Rattle.aes_ctr.specs.CounterMode.{KeyStreamPlace}
use Rattle.encfile.specs.EncryptedFile.{body, derived_key, head}
use Rattle.encfile.proofs.Files.{FitsSha256-body}
use Rattle.encfile.proofs.Pieces.{counter_mode-more, place-more}
use Rattle.encfile.proofs.enc.Enc.feed.Goals as goal

pub returns-then-bytes-saturating_sub-clause-too_long : goal.returns-then-bytes-saturating_sub-clause-too_long
returns-then-bytes-saturating_sub-clause-too_long c = λ passphrase salt costs text h.
    omega (arith, ap (λ (p : KeyStreamPlace). p.position) h.state.cipher, h.below_limit, c.position.ensures.position, c.saturating_sub.ensures, c.if-bytes-saturating_sub.true)

pub returns-clause-takes : goal.returns-clause-takes
unfolding body
returns-clause-takes c = λ passphrase salt costs text h.
    let bytes : List ℕ = c.args.bytes.now in
    let keys : List ℕ = derived_key passphrase salt costs in
    let below : length text + length bytes < 2 ^ 60 =
    omega (arith, ap (λ (p : KeyStreamPlace). p.position) h.state.cipher, c.position.ensures.position, c.saturating_sub.ensures, c.if-bytes-saturating_sub.false) in
    let more = counter_mode-more (head passphrase salt costs) (take 32 keys) text bytes c.apply.new.bytes c.args.self.now.ctr h.state.cipher c.apply.ensures.applied.xored in
    let shorter : length (text ++ bytes) < 2 ^ 60 = omega (arith, below, length-append text bytes) in
    record {
      fed = record {
        state = record {
          header = h.state.header;
          cipher = place-more (take 32 keys) text bytes c.args.self.now.ctr c.apply.new.self h.state.cipher c.apply.ensures.applied.key c.apply.ensures.applied.position;
          code = subst (Holds c.update.new.self (drop 32 keys)) more (c.update.ensures.appended _ _ h.state.code);
        };
        salt_has_32_bytes = h.salt_has_32_bytes;
        in_range = h.in_range;
        below_limit = shorter;
      };
      written = more;
      fits = below;
      hashed = FitsSha256-body passphrase salt costs _ h.salt_has_32_bytes shorter;
    }
