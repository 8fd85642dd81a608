use Rattle.std.proofs.Common.{◌≡◌, ◌+◌, ◌<◌, ◌++◌, ◌^◌, ap, sym, subst, rules, refl, inl, inr, length}
use Rattle.encfile.specs.EncryptedFile.{IsEncryptionOf, released_text}
use Rattle.host.specs.HostState.{HostState}
use Rattle.scrypt_run.specs.Decrypting.{released_text_of_header_and_rest}
use Rattle.scrypt_run.specs.Inside.Decrypting.{DecryptRefusedFromOutputOn, ReleaseRefused}
use Rattle.scrypt_request.specs.Request.{name_view}
use Rattle.scrypt_run.specs.Steps.{after_pull_and_push}
use Rattle.scrypt_run.proofs.decrypt.finish.Goals as goal

pub returns-in_err-release-clause-ends : goal.returns-in_err-release-clause-ends
returns-in_err-release-clause-ends g c = λ t passphrase front h.
    let before = g.H.Host.seen c.args.host.now in
    let after = g.H.Host.seen c.release.new.host in
    let r = c.in_err-release.field-0.0 in
    let ends : DecryptRefusedFromOutputOn r passphrase front (name_view c.args.outfile) before after =
    inr (inl (subst (λ s. ReleaseRefused r passphrase front s after) (c.in-Ok.ensures.opened t) (c.in_err-release.ensures.refused t passphrase front h))) in
    search (rules, ends)

pub returns-in-Ok-finish-clause-ends : goal.returns-in-Ok-finish-clause-ends
returns-in-Ok-finish-clause-ends g c = λ t passphrase front h.
    let opened = g.H.Host.seen c.open_output.new.self in
    let after = g.H.Host.seen c.release.new.host in
    let same = ap (λ (w : HostState). w.input) (c.in-Ok.ensures.opened t) in
    record {
      released = subst (λ w. after ≡ after_pull_and_push (released_text_of_header_and_rest passphrase front) (length w.input) w) (c.in-Ok.ensures.opened t)
          (c.in_ok-release.ensures.released t passphrase front h);
      genuine = subst (λ xs. IsEncryptionOf (front ++ xs) passphrase (released_text (front ++ xs) passphrase)) same
          (c.in-Ok-finish.ensures.tells.whole passphrase (front ++ opened.input) (c.in_ok-release.ensures.read t passphrase front h));
    }

pub returns-in-Err-clause-ends : goal.returns-in-Err-clause-ends
returns-in-Err-clause-ends g c = λ t passphrase front h.
    let opened = g.H.Host.seen c.open_output.new.self in
    let after = g.H.Host.seen c.release.new.host in
    let same = ap (λ (w : HostState). w.input) (c.in-Ok.ensures.opened t) in
    inr (inr (
      refl,
      record {
        below_limit = subst (λ xs. length (front ++ xs) < 2 ^ 60 + 128) same (c.in_ok-release.ensures.read t passphrase front h).below_limit;
        released = subst (λ w. after ≡ after_pull_and_push (released_text_of_header_and_rest passphrase front) (length w.input) w) (c.in-Ok.ensures.opened t)
            (c.in_ok-release.ensures.released t passphrase front h);
        damaged = λ genuine. c.in-Err.ensures.tells.damaged passphrase (front ++ opened.input) (c.in_ok-release.ensures.read t passphrase front h)
            (subst (λ xs. IsEncryptionOf (front ++ xs) passphrase (released_text (front ++ xs) passphrase)) (sym same) genuine);
      },
    ))
