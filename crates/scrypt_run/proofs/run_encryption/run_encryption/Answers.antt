use Rattle.std.proofs.Common.{true, ◌∙◌, ap, subst, sym, inr}
use Rattle.romix.specs.SparseCosts.{CostsAndKeep}
use Rattle.scrypt_run.specs.Asking.{source_after_workspace_request}
use Rattle.scrypt_run.specs.Encrypting.{EncryptRefused, IsEncrypted, salt_used}
use Rattle.scrypt_run.specs.Inside.Encrypting.{EncryptRefusedFromOutputOn}
use Rattle.scrypt_request.specs.Request.{allowance_of, encryption_view}
use Rattle.scrypt_run.proofs.Encrypting.{start_ends, started_before}
use Rattle.scrypt_run.proofs.Ends.{always_err, always_ok, err_of, handed_on, ok_of}
use Rattle.scrypt_run.proofs.Working.{granted_before, start_works, whole_work, writing_after}
use Rattle.scrypt_run.proofs.run_encryption.run_encryption.Goals as goal

pub returns-in_err-enc-clause-refused : goal.returns-in_err-enc-clause-refused
returns-in_err-enc-clause-refused g c = λ t.
    let asked = encryption_view c.args.asked.now in
    let before = g.H.Host.seen c.args.host.now in
    let after = g.H.Host.seen c.start.new.host in
    let r = c.in_err-enc.field-0.0 in
    let ends : EncryptRefused r asked before after =
    start_ends asked before (g.H.Host.seen c.open_input.new.self) after r c.in_ok-admitted.ensures.passes (c.in-Ok.ensures.opened t)
    (c.in_err-enc.ensures.refused t) in
    handed_on c.from_residual-in_err-enc.result c.from_residual-in_err-enc.ensures.1 (λ e same.
    subst (λ x. EncryptRefused x asked before after) (sym same) ends)

pub returns-clause-succeeds : goal.returns-clause-succeeds
returns-clause-succeeds g c = λ t.
    let asked = encryption_view c.args.asked.now in
    let before = g.H.Host.seen c.args.host.now in
    let after = g.H.Host.seen c.write_encrypted_file.new.host in
    let salt = salt_used asked.salt before in
    let started = started_before g.H.Host.tells asked c.in_ok-enc.enc before (g.H.Host.seen c.open_input.new.self) (g.H.Host.seen c.start.new.host) t
    (c.in-Ok.ensures.opened t) c.in_ok-enc.ensures.started in
    ok_of _ c.write_encrypted_file.result (λ written. record {
      admitted = c.in_ok-admitted.ensures.passes;
      passphrase = started.0;
      given = started.1;
      encrypted = subst (λ s. IsEncrypted started.0 salt asked.costs asked.task.outfile s after) started.3 written;
    }) (c.write_encrypted_file.ensures.ends t started.0 salt asked.costs started.2)

pub returns-clause-refused : goal.returns-clause-refused
returns-clause-refused g c = λ t.
    let asked = encryption_view c.args.asked.now in
    let before = g.H.Host.seen c.args.host.now in
    let after = g.H.Host.seen c.write_encrypted_file.new.host in
    let salt = salt_used asked.salt before in
    let started = started_before g.H.Host.tells asked c.in_ok-enc.enc before (g.H.Host.seen c.open_input.new.self) (g.H.Host.seen c.start.new.host) t
    (c.in-Ok.ensures.opened t) c.in_ok-enc.ensures.started in
    err_of _ c.write_encrypted_file.result (λ r refused. inr (
      c.in_ok-admitted.ensures.passes,
      inr (inr (
        started.0,
        started.1,
        inr (inr (subst (λ s. EncryptRefusedFromOutputOn r started.0 salt asked.costs asked.task.outfile s after) started.3 refused)),
      )),
    ))
    (c.write_encrypted_file.ensures.ends t started.0 salt asked.costs started.2)

pub returns-clause-count : goal.returns-clause-count
returns-clause-count g c = λ t.
    always_ok c.write_encrypted_file.result (start_works g.H.Host.tells (encryption_view c.args.asked.now) c.in_ok-admitted.admitted.sparse
    (g.H.Host.seen c.args.host.now) (g.H.Host.seen c.open_input.new.self) c.args.ticks.now c.start.new.ticks t (c.in-Ok.ensures.opened t)
    c.in_ok-admitted.ensures.costs c.in_ok-enc.ensures.count)

pub returns-clause-worked : goal.returns-clause-worked
returns-clause-worked g c = λ t.
    always_err c.write_encrypted_file.result (λ r late. start_works g.H.Host.tells (encryption_view c.args.asked.now) c.in_ok-admitted.admitted.sparse
    (g.H.Host.seen c.args.host.now) (g.H.Host.seen c.open_input.new.self) c.args.ticks.now c.start.new.ticks t (c.in-Ok.ensures.opened t)
    c.in_ok-admitted.ensures.costs c.in_ok-enc.ensures.count)

pub returns-clause-unworked : goal.returns-clause-unworked
returns-clause-unworked g c = λ t.
    let asked = encryption_view c.args.asked.now in
    let begun = c.in_ok-enc.ensures.started in
    err_of _ c.write_encrypted_file.result (λ r ends early.
    absurd (early (writing_after r begun.passphrase begun.salt asked.costs asked.task.outfile (g.H.Host.seen c.start.new.host) (g.H.Host.seen c.write_encrypted_file.new.host) ends)))
    (c.write_encrypted_file.ensures.ends t begun.passphrase begun.salt asked.costs begun.begun)

pub returns-clause-work : goal.returns-clause-work
returns-clause-work g c = λ whole.
    let asked = encryption_view c.args.asked.now in
    always_ok c.write_encrypted_file.result (whole_work _ _ _ _ (allowance_of asked.task) asked.costs _ _ c.in_ok-admitted.ensures.costs whole
    c.in_ok-enc.ensures.count)

pub returns-clause-memory : goal.returns-clause-memory
returns-clause-memory g c =
    let asked = encryption_view c.args.asked.now in
    granted_before (source_after_workspace_request g.R.RunMemory.after_workspace c.args.memory.now asked.task asked.costs) c.write_encrypted_file.result c.args.memory.now c.start.new.memory
    (c.in_ok-enc.ensures.memory ∙ ap (λ (sparse : CostsAndKeep). g.R.RunMemory.after_workspace c.args.memory.now sparse true) c.in_ok-admitted.ensures.costs)
    c.write_encrypted_file.ensures.late
