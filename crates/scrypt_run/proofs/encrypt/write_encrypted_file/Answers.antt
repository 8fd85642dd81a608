use Rattle.std.proofs.Common.{rules, ◌^◌, length, subst, refl, inl, inr}
use Rattle.encfile.specs.EncryptedFile.{body}
use Rattle.host.specs.HostState.{after_open_output}
use Rattle.scrypt_run.specs.Encrypting.{decided}
use Rattle.scrypt_run.specs.Inside.Encrypting.{EncryptRefusedFromOutputOn}
use Rattle.scrypt_request.specs.Request.{name_view}
use Rattle.scrypt_run.specs.Text.{RefusesDuringText, FailsWriting}
use Rattle.scrypt_run.proofs.Encrypting.{code_cut, passing_ended}
use Rattle.scrypt_run.proofs.encrypt.write_encrypted_file.Goals as goal

pub returns-in_err-write_header_and_ciphertext-clause-ends : goal.returns-in_err-write_header_and_ciphertext-clause-ends
returns-in_err-write_header_and_ciphertext-clause-ends g c = λ t passphrase salt costs h.
    let opened = after_open_output (name_view c.args.outfile) (g.H.Host.seen c.args.host.now) in
    let after = g.H.Host.seen c.write_header_and_ciphertext.new.host in
    let r = c.in_err-write_header_and_ciphertext.field-0.0 in
    let ends : EncryptRefusedFromOutputOn r passphrase salt costs (name_view c.args.outfile) (g.H.Host.seen c.args.host.now) after =
    inr (passing_ended r passphrase salt costs _ opened after h.salt_has_32_bytes
    (subst (λ s. RefusesDuringText r (2 ^ 60) 4096 (body passphrase salt costs) (body passphrase salt costs) s after) (c.in-Ok.ensures.opened t) (c.in_err-write_header_and_ciphertext.ensures.refused t passphrase salt costs h))) in
    search (rules, ends)

pub returns-in_default-push_all-clause-ends : goal.returns-in_default-push_all-clause-ends
returns-in_default-push_all-clause-ends g c = λ t passphrase salt costs h.
    let opened = g.H.Host.seen c.open_output.new.self in
    let text = g.H.Host.seen c.write_header_and_ciphertext.new.host in
    let after = g.H.Host.seen c.push_all.new.host in
    let cut = c.in_default-push_all.ensures.pushes.begun t in
    let whole = c.in_ok-write_header_and_ciphertext.ensures.encrypted t passphrase salt costs h in
    inr (inr (inl (
      refl,
      subst (λ s. FailsWriting (2 ^ 60) 4128 (decided passphrase salt costs (length s.input)) s after) (c.in-Ok.ensures.opened t)
          (code_cut passphrase salt costs cut.0 c.finish.result opened text after h.salt_has_32_bytes whole.below_limit (c.finish.ensures.code passphrase salt costs opened.input whole)
          (c.in_ok-write_header_and_ciphertext.ensures.written t passphrase salt costs h) cut.1 cut.2),
    )))
