use Rattle.std.proofs.Common.{rules, arith, ◌≡◌, ◌+◌, ◌++◌, ◌∙◌, ◌≤◌, ◌^◌, ap, sym, length, take, drop, append_assoc, subst, refl, inl, inr}
use Rattle.std.proofs.lemmas.Grind.{common_steps}
use Rattle.std.proofs.lemmas.List.{append-nil, take_all}
use Rattle.encfile.specs.Decrypting.{DecryptionHasRead}
use Rattle.encfile.specs.Inside.Lengths.{bytes_read_so_far}
use Rattle.encfile.proofs.Reading.{length-read}
use Rattle.host.specs.HostState.{HostState}
use Rattle.scrypt_run.specs.Decrypting.{released_text_of_header_and_rest}
use Rattle.scrypt_run.specs.Steps.{after_pull_and_push}
use Rattle.scrypt_run.proofs.Decrypting.{length-first, bytes_read_so_far-below, bytes_read_so_far-more, released_text_of_header_and_rest-more, released_text_of_header_and_rest-nil}
use Rattle.host.proofs.Pulls.{fits_on}
use Rattle.scrypt_run.proofs.Passing.{gives_length, left_on, pass_all, pass_none, pass_part, pass_whole, starts, take_on}
use Rattle.scrypt_run.proofs.decrypt.release.Goals as goal

pub loop-n-init : goal.loop-n-init
loop-n-init g c =
    let s = g.H.Host.seen c.args.host.now in
    let dec = c.args.dec.now in
    let none = sym c.requires.begun.none in record {
      buf_long = search rules;
      out_long = search rules;
      read = c.requires.begun.read;
      grants = refl;
      same = search rules;
      below = omega (arith, c.requires.begun.none);
      within = λ t. omega (arith, c.requires.begun.none);
      left = λ t. ap (λ k. drop k s.input) none;
      holds = λ t passphrase front h. subst (λ k. DecryptionHasRead dec passphrase (front ++ take k s.input)) none
          (subst (λ file. DecryptionHasRead dec passphrase file) (sym (append-nil front)) h);
      passes = λ t passphrase front h. subst (λ k. s ≡ after_pull_and_push (released_text_of_header_and_rest passphrase front) k s) none
          (starts (released_text_of_header_and_rest passphrase front) s (released_text_of_header_and_rest-nil passphrase front (length-first dec passphrase front h c.requires.begun.none)));
    }

pub returns-then-n-eq0-clause-read : goal.returns-then-n-eq0-clause-read
returns-then-n-eq0-clause-read g c = λ t passphrase front h.
    let s = g.H.Host.seen c.args.host.now in
    let before = g.H.Host.seen c.loop-n.host in
    let i = c.loop-n.invariant in
    let j = bytes_read_so_far c.loop-n.dec in
    let none = c.in-Ok.ensures.progress t (omega (arith, i.buf_long)) c.if-n-eq0.true in
    let all : j ≡ length s.input = pass_all (released_text_of_header_and_rest passphrase front) j s before (i.passes t passphrase front h) none (i.within t) in
    subst (λ xs. DecryptionHasRead c.loop-n.dec passphrase (front ++ xs)) (take_all j s.input (omega (arith, all))) (i.holds t passphrase front h)

pub returns-in_default-feed-clause-refused : goal.returns-in_default-feed-clause-refused
returns-in_default-feed-clause-refused g c = λ t passphrase front h.
    let s = g.H.Host.seen c.args.host.now in
    let before = g.H.Host.seen c.loop-n.host in
    let pulled = g.H.Host.seen c.pull.new.self in
    let i = c.loop-n.invariant in
    let j = bytes_read_so_far c.loop-n.dec in
    let n = c.in-Ok.n in
    let r = i.read in
    let long = length-read c.loop-n.dec r.0 r.1 r.2 in
    let reached : 2 ^ 60 + 32 ≤ j + n = grind (arith, common_steps, long, c.in_default-feed.ensures.too_long r.0 r.1 r.2, c.in-Ok.ensures.bound, i.buf_long) in
    inr (inr (
      refl,
      record {
        handed_on = j;
        least = omega (arith, reached, c.in-Ok.ensures.bound, i.buf_long);
        below = i.below;
        pulled = j + n;
        within = fits_on j n s before (i.left t) (i.within t) (c.in-Ok.ensures.within t);
        too_long = reached;
        most = omega (arith, c.in-Ok.ensures.bound, i.buf_long);
        passes = pass_none (released_text_of_header_and_rest passphrase front) j n s before pulled (i.passes t passphrase front h) (c.in-Ok.ensures.taken t);
      },
    ))

pub loop-n-smaller : goal.loop-n-smaller
loop-n-smaller g c =
    let i = c.loop-n.invariant in
    let j = bytes_read_so_far c.loop-n.dec in
    let n = c.in-Ok.n in
    let r = i.read in
    let next = (c.in-Ok-feed.ensures.takes r.0 r.1 r.2).read in
    let more = bytes_read_so_far-more c.loop-n.dec c.feed.new.self r.0 r.1 _ r.2 next in
    let fed : j + n ≡ bytes_read_so_far c.feed.new.self = grind (arith, common_steps, more, c.in-Ok.ensures.bound, i.buf_long) in
    omega (arith, fed, bytes_read_so_far-below c.feed.new.self r.0 _ next, c.if-n-eq0.false)

pub loop-n-preserved : goal.loop-n-preserved
loop-n-preserved g c =
    let s = g.H.Host.seen c.args.host.now in
    let before = g.H.Host.seen c.loop-n.host in
    let pulled = g.H.Host.seen c.pull.new.self in
    let after = g.H.Host.seen c.push_all.new.host in
    let dec = c.feed.new.self in
    let i = c.loop-n.invariant in
    let j = bytes_read_so_far c.loop-n.dec in
    let n = c.in-Ok.n in
    let r = i.read in
    let next = (c.in-Ok-feed.ensures.takes r.0 r.1 r.2).read in
    let more = bytes_read_so_far-more c.loop-n.dec dec r.0 r.1 _ r.2 next in
    let fed : j + n ≡ bytes_read_so_far dec = grind (arith, common_steps, more, c.in-Ok.ensures.bound, i.buf_long) in record {
      buf_long = search rules;
      out_long = search rules;
      read = (r.0, _, next);
      grants = c.in-Ok-push_all.ensures.pushes.granted ∙ c.in-Ok.ensures.granted (omega (arith, c.if-n-eq0.false)) ∙ i.grants;
      same = search rules;
      below = bytes_read_so_far-below dec r.0 _ next;
      within = λ t. subst (λ k. k ≤ length s.input) fed (fits_on j n s before (i.left t) (i.within t) (c.in-Ok.ensures.within t));
      left = λ t. subst (λ k. after.input ≡ drop k s.input) fed
          (left_on j n s before pulled after (i.left t) (c.in-Ok.ensures.taken t) (ap (λ (w : HostState). w.input) (c.in-Ok-push_all.ensures.pushes.put t)));
      holds = λ t passphrase front h. subst (λ k. DecryptionHasRead dec passphrase (front ++ take k s.input)) fed
          (subst (λ xs. DecryptionHasRead dec passphrase (front ++ xs)) (take_on (released_text_of_header_and_rest passphrase front) j n _ s before (i.passes t passphrase front h) (c.in-Ok.ensures.bytes t))
          (subst (λ file. DecryptionHasRead dec passphrase file) (append_assoc front (take j s.input) _) ((c.in-Ok-feed.ensures.takes passphrase _ (i.holds t passphrase front h)).read)));
      passes = λ t passphrase front h. subst (λ k. after ≡ after_pull_and_push (released_text_of_header_and_rest passphrase front) k s) fed
          (pass_whole (released_text_of_header_and_rest passphrase front) j n _ _ s before pulled after (i.passes t passphrase front h) (c.in-Ok.ensures.bytes t) (c.in-Ok.ensures.taken t)
          (released_text_of_header_and_rest-more passphrase front (take j s.input) _ _ ((c.in-Ok-feed.ensures.takes passphrase _ (i.holds t passphrase front h)).released)) (c.in-Ok-push_all.ensures.pushes.put t));
    }

pub returns-in_default-push_all-clause-refused : goal.returns-in_default-push_all-clause-refused
returns-in_default-push_all-clause-refused g c = λ t passphrase front h.
    let s = g.H.Host.seen c.args.host.now in
    let before = g.H.Host.seen c.loop-n.host in
    let pulled = g.H.Host.seen c.pull.new.self in
    let after = g.H.Host.seen c.push_all.new.host in
    let i = c.loop-n.invariant in
    let j = bytes_read_so_far c.loop-n.dec in
    let n = c.in-Ok.n in
    let b = c.in_default-push_all.ensures.pushes.begun t in
    let passes = i.passes t passphrase front h in
    let given = released_text_of_header_and_rest-more passphrase front (take j s.input) _ _ ((c.in-Ok-feed.ensures.takes passphrase _ (i.holds t passphrase front h)).released) in
    let longer = gives_length (released_text_of_header_and_rest passphrase front) j n _ _ s before passes (c.in-Ok.ensures.bytes t) given in
    let r = i.read in
    let next = (c.in-Ok-feed.ensures.takes r.0 r.1 r.2).read in
    let more = bytes_read_so_far-more c.loop-n.dec c.feed.new.self r.0 r.1 _ r.2 next in
    let fed : j + n ≡ bytes_read_so_far c.feed.new.self = grind (arith, common_steps, more, c.in-Ok.ensures.bound, i.buf_long) in
    inr (inl (
      refl,
      record {
        pulled = j + n;
        below = omega (arith, fed, bytes_read_so_far-below c.feed.new.self r.0 _ next);
        within = fits_on j n s before (i.left t) (i.within t) (c.in-Ok.ensures.within t);
        written = length (released_text_of_header_and_rest passphrase front (take j s.input)) + b.0;
        begun = omega (arith, longer, b.1);
        missing = grind (arith, common_steps, longer, c.in-Ok-feed.ensures.within, c.in-Ok.ensures.bound, i.buf_long, c.feed.auto, i.out_long);
        passes = pass_part (released_text_of_header_and_rest passphrase front) j n b.0 _ _ s before pulled after passes (c.in-Ok.ensures.bytes t) (c.in-Ok.ensures.taken t) given b.2;
      },
    ))
