use Rattle.std.proofs.Common.{rules, arith, ◌≡◌, ◌∙◌, ◌+◌, ◌<◌, ◌≤◌, ◌^◌, ap, sym, [], length, take, drop, subst, refl, inl, inr}
use Rattle.std.proofs.lemmas.Grind.{common_steps}
use Rattle.encfile.specs.EncryptedFile.{body}
use Rattle.encfile.specs.Encrypting.{HasEncrypted}
use Rattle.encfile.specs.Inside.Lengths.{bytes_encrypted_so_far}
use Rattle.encfile.proofs.Files.{bytes_encrypted_so_far-is}
use Rattle.host.specs.HostState.{HostState, after_push}
use Rattle.scrypt_run.specs.Steps.{after_pull_and_push}
use Rattle.scrypt_run.proofs.Encrypting.{header_cut, bytes_encrypted_so_far-below, bytes_encrypted_so_far-more}
use Rattle.host.proofs.Pulls.{fits_on}
use Rattle.scrypt_run.proofs.Passing.{gives_length, left_on, pass_part, pass_whole, put_length, take_on}
use Rattle.scrypt_run.proofs.encrypt.write_header_and_ciphertext.Goals as goal

pub returns-in_default-clause-refused : goal.returns-in_default-clause-refused
returns-in_default-clause-refused g c = λ t passphrase salt costs h.
    let b = c.in_default.ensures.pushes.begun t in
    inr (inl (
      refl,
      header_cut passphrase salt costs b.0 c.header.result (g.H.Host.seen c.args.host.now) (g.H.Host.seen c.push_all.new.host)
          h.salt_has_32_bytes (c.header.ensures.body passphrase salt costs [] h) b.1 b.2,
    ))

pub loop-n-init : goal.loop-n-init
loop-n-init g c =
    let s = g.H.Host.seen c.args.host.now in
    let b = c.requires.begun in
    let none : 0 ≡ bytes_encrypted_so_far c.args.enc.now = bytes_encrypted_so_far-is c.args.enc.now b.0 b.1 b.2 [] b.3 in record {
      buf_long = refl;
      grants = c.in-Ok.ensures.pushes.granted;
      same = search rules;
      begun = (b.0, b.1, b.2, [], b.3);
      below = bytes_encrypted_so_far-below c.args.enc.now b.0 b.1 b.2 [] b.3;
      within = λ t. omega (arith, none);
      left = λ t. ap (λ (w : HostState). w.input) (c.in-Ok.ensures.pushes.put t) ∙ ap (λ k. drop k s.input) none;
      holds = λ t passphrase salt costs h. subst (λ k. HasEncrypted c.args.enc.now passphrase salt costs (take k s.input)) none h;
      passes = λ t passphrase salt costs h. subst (λ k. g.H.Host.seen c.push_all.new.host ≡ after_pull_and_push (body passphrase salt costs) k s) none
          (c.in-Ok.ensures.pushes.put t ∙ ap (λ xs. after_push xs s) (c.header.ensures.body passphrase salt costs [] h));
    }

pub loop-n-smaller : goal.loop-n-smaller
loop-n-smaller g c =
    let i = c.loop-n.invariant in
    let b = i.begun in
    let fed = (c.in-Ok-feed.ensures.takes b.0 b.1 b.2 b.3 b.4).fed in
    let more : bytes_encrypted_so_far c.loop-n.enc + c.in-Ok-pull.n ≡ bytes_encrypted_so_far c.feed.new.self =
    bytes_encrypted_so_far-more c.loop-n.enc c.feed.new.self b.0 b.1 b.2 b.3 _ c.in-Ok-pull.n b.4 fed (grind (arith, common_steps, c.in-Ok-pull.ensures.bound, c.pull.auto.buf, i.buf_long)) in
    let below : bytes_encrypted_so_far c.feed.new.self < 2 ^ 60 = bytes_encrypted_so_far-below c.feed.new.self b.0 b.1 b.2 _ fed in
    omega (arith, more, below, c.if-n-eq0.false)

pub loop-n-preserved : goal.loop-n-preserved
loop-n-preserved g c =
    let s = g.H.Host.seen c.args.host.now in
    let before = g.H.Host.seen c.loop-n.host in
    let pulled = g.H.Host.seen c.pull.new.self in
    let after = g.H.Host.seen c.push_all-in-Ok-pull.new.host in
    let i = c.loop-n.invariant in
    let j = bytes_encrypted_so_far c.loop-n.enc in
    let n = c.in-Ok-pull.n in
    let b = i.begun in
    let fed = (c.in-Ok-feed.ensures.takes b.0 b.1 b.2 b.3 b.4).fed in
    let more : j + n ≡ bytes_encrypted_so_far c.feed.new.self =
    bytes_encrypted_so_far-more c.loop-n.enc c.feed.new.self b.0 b.1 b.2 b.3 _ n b.4 fed (grind (arith, common_steps, c.in-Ok-pull.ensures.bound, c.pull.auto.buf, i.buf_long)) in record {
      buf_long = put_length n c.pull.new.buf c.feed.new.bytes 4096 (grind (arith, c.pull.auto.buf, i.buf_long)) (grind (arith, c.in-Ok-pull.ensures.bound, i.buf_long))
          (grind (arith, common_steps, c.feed.auto.bytes, c.in-Ok-pull.ensures.bound, c.pull.auto.buf, i.buf_long));
      grants = c.in-Ok-push_all.ensures.pushes.granted ∙ c.in-Ok-pull.ensures.granted (omega (arith, c.if-n-eq0.false)) ∙ i.grants;
      same = search rules;
      begun = (b.0, b.1, b.2, _, fed);
      below = bytes_encrypted_so_far-below c.feed.new.self b.0 b.1 b.2 _ fed;
      within = λ t. subst (λ k. k ≤ length s.input) more (fits_on j n s before (i.left t) (i.within t) (c.in-Ok-pull.ensures.within t));
      left = λ t. subst (λ k. after.input ≡ drop k s.input) more (left_on j n s before pulled after (i.left t) (c.in-Ok-pull.ensures.taken t) (ap (λ (w : HostState). w.input) (c.in-Ok-push_all.ensures.pushes.put t)));
      holds = λ t passphrase salt costs h. subst (λ k. HasEncrypted c.feed.new.self passphrase salt costs (take k s.input)) more (
          subst (λ xs. HasEncrypted c.feed.new.self passphrase salt costs xs)
          (take_on (body passphrase salt costs) j n _ s before (i.passes t passphrase salt costs h) (c.in-Ok-pull.ensures.bytes t))
          ((c.in-Ok-feed.ensures.takes passphrase salt costs _ (i.holds t passphrase salt costs h)).fed));
      passes = λ t passphrase salt costs h. subst (λ k. after ≡ after_pull_and_push (body passphrase salt costs) k s) more (
          pass_whole (body passphrase salt costs) j n _ _ s before pulled after (i.passes t passphrase salt costs h) (c.in-Ok-pull.ensures.bytes t)
          (c.in-Ok-pull.ensures.taken t) (sym ((c.in-Ok-feed.ensures.takes passphrase salt costs _ (i.holds t passphrase salt costs h)).written)) (c.in-Ok-push_all.ensures.pushes.put t));
    }

pub returns-in_default-push_all-clause-refused : goal.returns-in_default-push_all-clause-refused
returns-in_default-push_all-clause-refused g c = λ t passphrase salt costs h.
    let s = g.H.Host.seen c.args.host.now in
    let before = g.H.Host.seen c.loop-n.host in
    let pulled = g.H.Host.seen c.pull.new.self in
    let after = g.H.Host.seen c.push_all-in-Ok-pull.new.host in
    let i = c.loop-n.invariant in
    let j = bytes_encrypted_so_far c.loop-n.enc in
    let n = c.in-Ok-pull.n in
    let cut = c.in_default-push_all.ensures.pushes.begun t in
    let passes = i.passes t passphrase salt costs h in
    let written = sym ((c.in-Ok-feed.ensures.takes passphrase salt costs _ (i.holds t passphrase salt costs h)).written) in
    let longer = gives_length (body passphrase salt costs) j n _ _ s before passes (c.in-Ok-pull.ensures.bytes t) written in
    let b = i.begun in
    let fed = (c.in-Ok-feed.ensures.takes b.0 b.1 b.2 b.3 b.4).fed in
    let more : j + n ≡ bytes_encrypted_so_far c.feed.new.self =
    bytes_encrypted_so_far-more c.loop-n.enc c.feed.new.self b.0 b.1 b.2 b.3 _ n b.4 fed (grind (arith, common_steps, c.in-Ok-pull.ensures.bound, c.pull.auto.buf, i.buf_long)) in
    inr (inl (
      refl,
      record {
        pulled = j + n;
        below = omega (arith, more, bytes_encrypted_so_far-below c.feed.new.self b.0 b.1 b.2 _ fed);
        within = fits_on j n s before (i.left t) (i.within t) (c.in-Ok-pull.ensures.within t);
        written = length (body passphrase salt costs (take j s.input)) + cut.0;
        begun = grind (arith, longer, cut.1);
        missing = grind (arith, common_steps, longer, c.in-Ok-pull.ensures.bound, i.buf_long, c.feed.auto.bytes, c.pull.auto.buf);
        passes = pass_part (body passphrase salt costs) j n cut.0 _ _ s before pulled after passes (c.in-Ok-pull.ensures.bytes t) (c.in-Ok-pull.ensures.taken t) written cut.2;
      },
    ))
