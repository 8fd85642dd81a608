use Rattle.std.proofs.Common.{true, ◌≡◌, ◌∙◌, ◌≤◌, None, ap, subst, sym, refl, inl, inr, take}
use Rattle.romix.specs.Allowance.{costs_with_allowed_keep}
use Rattle.romix.specs.SparseCosts.{CostsAndKeep, cores_bound}
use Rattle.encfile.specs.Front.{allowance_refusal}
use Rattle.encfile.specs.EncryptedFile.{HasRightHeaderHmac}
use Rattle.encfile.specs.Header.{costs_of}
use Rattle.encfile.proofs.Fronts.{front_refusal-right}
use Rattle.host.specs.HostState.{HostState, after_ask_secret}
use Rattle.scrypt_run.specs.Asking.{source_after_workspace_request}
use Rattle.scrypt_run.specs.Decrypting.{DecryptRefused, Decrypted, input_refusal_before_passphrase}
use Rattle.scrypt_run.specs.Inside.Decrypting.{DecryptionHasRead, DecryptionStartRefused, DecryptRefusedFromOutputOn}
use Rattle.scrypt_run.specs.Passphrase.{HasPassphrase, first_line_of_source}
use Rattle.scrypt_request.specs.Refusal.{is_out_of_memory}
use Rattle.scrypt_request.specs.Request.{allowance_of, task_view}
use Rattle.scrypt_run.specs.Work.{CountsDecryptionWork, EndsAfterWork}
use Rattle.scrypt_run.proofs.Decrypting.{opening_ends}
use Rattle.scrypt_run.proofs.Ends.{always_err, always_ok, err_of, first_line_of_source-reading, handed_match, handed_on, ok_of}
use Rattle.scrypt_run.proofs.Fronts.{costs_told, format_first, refused_front}
use Rattle.scrypt_run.proofs.Working.{asked_as, file_works, header_granted_before, late_of, release_after, unworked_of, whole_work, works_within}
use Rattle.scrypt_run.proofs.run_decryption.run_decryption.Goals as goal

pub returns-in_err-front-clause-refused : goal.returns-in_err-front-clause-refused
returns-in_err-front-clause-refused g c = λ t.
    let s = g.H.Host.seen c.args.host.now in
    let after = g.H.Host.seen c.read_front.new.host in
    let task = task_view c.args.task.now in
    let r = c.in_err-front.field-0.0 in
    let ends : DecryptRefused r task s after = inl (format_first r (allowance_of task) task.infile s after (c.in_err-front.ensures.reads t)) in
    handed_on c.from_residual.result c.from_residual.ensures.1 (λ e same.
    subst (λ x. DecryptRefused x task s after) (sym same) ends)

pub returns-in_err-front-clause-memory : goal.returns-in_err-front-clause-memory
returns-in_err-front-clause-memory g c =
    let s = g.H.Host.seen c.args.host.now in
    handed_match _ c.from_residual.result c.from_residual.ensures.1 (λ e same. record {
      costs = costs_of s.input;
      of_header = λ _. refl;
      asked = inr (inl (ap is_out_of_memory same ∙ c.in_err-front.ensures.not_out_of_memory, refl));
    })

pub returns-in_err-admitted-clause-refused : goal.returns-in_err-admitted-clause-refused
returns-in_err-admitted-clause-refused g c = λ t.
    let s = g.H.Host.seen c.args.host.now in
    let after = g.H.Host.seen c.read_front.new.host in
    let task = task_view c.args.task.now in
    let front = c.in_ok-front.front in
    let r = c.in_err-admitted.field-0.0 in
    let ends : DecryptRefused r task s after =
    inl (refused_front r (input_refusal_before_passphrase task s) (allowance_refusal c.costs.result.now (allowance_of task)) task.infile s after (c.in_ok-front.ensures.reads t)
    (costs_told s.input front.bytes front.header c.costs.result.now (allowance_of task) (c.in_ok-front.ensures.front t) c.costs.ensures.costs)
    c.in_err-admitted.ensures.refused) in
    handed_on c.from_residual-in_err-admitted.result c.from_residual-in_err-admitted.ensures.1 (λ e same.
    subst (λ x. DecryptRefused x task s after) (sym same) ends)

pub returns-in_err-admitted-clause-memory : goal.returns-in_err-admitted-clause-memory
returns-in_err-admitted-clause-memory g c =
    let s = g.H.Host.seen c.args.host.now in
    handed_match _ c.from_residual-in_err-admitted.result c.from_residual-in_err-admitted.ensures.1 (λ e same. record {
      costs = costs_of s.input;
      of_header = λ _. refl;
      asked = inr (inl (ap is_out_of_memory same ∙ c.in_err-admitted.ensures.not_out_of_memory, refl));
    })

pub returns-in_err-dec-clause-refused : goal.returns-in_err-dec-clause-refused
returns-in_err-dec-clause-refused g c = λ t.
    let s = g.H.Host.seen c.args.host.now in
    let read = g.H.Host.seen c.read_front.new.host in
    let after = g.H.Host.seen c.«open».new.host in
    let task = task_view c.args.task.now in
    let front = c.in_ok-front.front in
    let is = c.in_ok-front.ensures.front t in
    let r = c.in_err-dec.field-0.0 in
    let checked =
    sym (costs_told s.input front.bytes front.header c.costs.result.now (allowance_of task) is c.costs.ensures.costs) ∙ c.in_ok-admitted.ensures.passes in
    let line : first_line_of_source task.source read ≡ first_line_of_source task.source s =
    ap (first_line_of_source task.source) (c.in_ok-front.ensures.reads t) ∙ first_line_of_source-reading task.source task.infile 96 s in
    let ends : DecryptRefused r task s after =
    opening_ends task s after r is.long checked
    (c.in_err-dec.ensures.asks t ∙ ap (after_ask_secret task.source) (c.in_ok-front.ensures.reads t))
    (subst (λ l. DecryptionStartRefused r l (take 96 s.input)) line
    (subst (λ bytes. DecryptionStartRefused r (first_line_of_source task.source read) bytes) is.bytes (c.in_err-dec.ensures.refused t))) in
    handed_on c.from_residual-in_err-dec.result c.from_residual-in_err-dec.ensures.1 (λ e same.
    subst (λ x. DecryptRefused x task s after) (sym same) ends)

pub returns-in_err-dec-clause-worked : goal.returns-in_err-dec-clause-worked
returns-in_err-dec-clause-worked g c = λ t.
    let s = g.H.Host.seen c.args.host.now in
    let read = g.H.Host.seen c.read_front.new.host in
    let after = g.H.Host.seen c.«open».new.host in
    let task = task_view c.args.task.now in
    let front = c.in_ok-front.front in
    let r = c.in_err-dec.field-0.0 in
    let same_costs = c.in_ok-admitted.ensures.costs ∙ ap (costs_with_allowed_keep (allowance_of task)) c.costs.ensures.costs in
    let unasked : after.output_asked ≡ None =
    ap (λ (w : HostState). w.output_asked) (c.in_err-dec.ensures.asks t ∙ ap (after_ask_secret task.source) (c.in_ok-front.ensures.reads t)) ∙ (c.requires.fresh t).output in
    handed_on c.from_residual-in_err-dec.result c.from_residual-in_err-dec.ensures.1 (λ e same.
    subst (λ x. EndsAfterWork x after → CountsDecryptionWork task s c.args.ticks.now c.«open».new.ticks) (sym same) (λ late.
    file_works task s read front.bytes front.header c.in_ok-admitted.admitted.sparse c.args.ticks.now c.«open».new.ticks (c.in_ok-front.ensures.reads t)
    (c.in_ok-front.ensures.front t) same_costs ((c.in_err-dec.ensures.work.worked (late_of r after unasked late)).once t)))

pub returns-in_err-dec-clause-unworked : goal.returns-in_err-dec-clause-unworked
returns-in_err-dec-clause-unworked g c = λ t.
    let after = g.H.Host.seen c.«open».new.host in
    handed_on c.from_residual-in_err-dec.result c.from_residual-in_err-dec.ensures.1 (λ e same early.
    unworked_of c.in_err-dec.field-0.0 after (subst (λ x. EndsAfterWork x after → ⊥) same early) c.in_err-dec.ensures.work.unworked)

pub returns-in_err-dec-clause-work_bound : goal.returns-in_err-dec-clause-work_bound
returns-in_err-dec-clause-work_bound g c =
    let admitted = c.in_ok-admitted.admitted in
    let few : cores_bound admitted.sparse ≤ c.args.task.now.limits.max_ops = subst (λ l. cores_bound admitted.sparse ≤ l.max_ops) c.in_ok-admitted.ensures.limits admitted.within.work in
    works_within _ g.H.Host.tells _ c.in_ok-front.front.header.salt admitted.sparse c.args.ticks.now c.«open».new.ticks c.args.task.now.limits.max_ops few c.in_err-dec.ensures.work

pub returns-in_err-dec-clause-memory : goal.returns-in_err-dec-clause-memory
returns-in_err-dec-clause-memory g c =
    let task = task_view c.args.task.now in
    let front = c.in_ok-front.front in
    let same_costs = c.in_ok-admitted.ensures.costs ∙ ap (costs_with_allowed_keep (allowance_of task)) c.costs.ensures.costs in
    handed_match _ c.from_residual-in_err-dec.result c.from_residual-in_err-dec.ensures.1 (λ e same. record {
      costs = front.header.costs;
      of_header = λ t. (c.in_ok-front.ensures.front t).costs;
      asked = asked_as g.R.RunMemory.after_workspace c.args.memory.now c.«open».new.memory _ _ _ e (sym same) same_costs c.in_err-dec.ensures.memory;
    })

pub returns-clause-succeeds : goal.returns-clause-succeeds
returns-clause-succeeds g c = λ t.
    let s = g.H.Host.seen c.args.host.now in
    let task = task_view c.args.task.now in
    let front = c.in_ok-front.front in
    let is = c.in_ok-front.ensures.front t in
    let checked =
    sym (costs_told s.input front.bytes front.header c.costs.result.now (allowance_of task) is c.costs.ensures.costs) ∙ c.in_ok-admitted.ensures.passes in
    let opened = c.in_ok-dec.ensures.opened in
    let passphrase = opened.passphrase in
    let before = c.in_ok-dec.ensures.asks t ∙ ap (after_ask_secret task.source) (c.in_ok-front.ensures.reads t) in
    let line = ap (first_line_of_source task.source) (c.in_ok-front.ensures.reads t) ∙ first_line_of_source-reading task.source task.infile 96 s in
    ok_of _ c.finish.result (λ done. record {
      passphrase = passphrase;
      given = subst (λ l. HasPassphrase l passphrase) line (opened.given t);
      passes = front_refusal-right s.input (allowance_of task) passphrase is.long checked (subst (λ f. HasRightHeaderHmac f passphrase) is.bytes opened.right);
      decrypted = subst (λ w. Decrypted passphrase (take 96 s.input) task.outfile w (g.H.Host.seen c.finish.new.host)) before done;
    }) (c.finish.ensures.ends t passphrase (take 96 s.input) (subst (λ f. DecryptionHasRead c.in_ok-dec.dec passphrase f) is.bytes opened.read))

pub returns-clause-refused : goal.returns-clause-refused
returns-clause-refused g c = λ t.
    let s = g.H.Host.seen c.args.host.now in
    let task = task_view c.args.task.now in
    let front = c.in_ok-front.front in
    let is = c.in_ok-front.ensures.front t in
    let checked =
    sym (costs_told s.input front.bytes front.header c.costs.result.now (allowance_of task) is c.costs.ensures.costs) ∙ c.in_ok-admitted.ensures.passes in
    let opened = c.in_ok-dec.ensures.opened in
    let passphrase = opened.passphrase in
    let before = c.in_ok-dec.ensures.asks t ∙ ap (after_ask_secret task.source) (c.in_ok-front.ensures.reads t) in
    let line = ap (first_line_of_source task.source) (c.in_ok-front.ensures.reads t) ∙ first_line_of_source-reading task.source task.infile 96 s in
    let given : HasPassphrase (first_line_of_source task.source s) passphrase = subst (λ l. HasPassphrase l passphrase) line (opened.given t) in
    let passes = front_refusal-right s.input (allowance_of task) passphrase is.long checked (subst (λ f. HasRightHeaderHmac f passphrase) is.bytes opened.right) in
    err_of _ c.finish.result (λ r ends. inr (
      checked,
      inr (
        passphrase,
        given,
        inr (inr (
          passes,
          subst (λ w. DecryptRefusedFromOutputOn r passphrase (take 96 s.input) task.outfile w (g.H.Host.seen c.finish.new.host)) before ends,
        )),
      ),
    )) (c.finish.ensures.ends t passphrase (take 96 s.input) (subst (λ f. DecryptionHasRead c.in_ok-dec.dec passphrase f) is.bytes opened.read))

pub returns-clause-count : goal.returns-clause-count
returns-clause-count g c = λ t.
    let s = g.H.Host.seen c.args.host.now in
    let task = task_view c.args.task.now in
    let front = c.in_ok-front.front in
    let same_costs = c.in_ok-admitted.ensures.costs ∙ ap (costs_with_allowed_keep (allowance_of task)) c.costs.ensures.costs in
    always_ok c.finish.result (file_works task s (g.H.Host.seen c.read_front.new.host) front.bytes front.header c.in_ok-admitted.admitted.sparse c.args.ticks.now c.«open».new.ticks
    (c.in_ok-front.ensures.reads t) (c.in_ok-front.ensures.front t) same_costs (c.in_ok-dec.ensures.work.done.once t))

pub returns-clause-worked : goal.returns-clause-worked
returns-clause-worked g c = λ t.
    let s = g.H.Host.seen c.args.host.now in
    let task = task_view c.args.task.now in
    let front = c.in_ok-front.front in
    let same_costs = c.in_ok-admitted.ensures.costs ∙ ap (costs_with_allowed_keep (allowance_of task)) c.costs.ensures.costs in
    always_err c.finish.result (λ r late. file_works task s (g.H.Host.seen c.read_front.new.host) front.bytes front.header c.in_ok-admitted.admitted.sparse c.args.ticks.now c.«open».new.ticks
    (c.in_ok-front.ensures.reads t) (c.in_ok-front.ensures.front t) same_costs (c.in_ok-dec.ensures.work.done.once t))

pub returns-clause-unworked : goal.returns-clause-unworked
returns-clause-unworked g c = λ t.
    let task = task_view c.args.task.now in
    let opened = c.in_ok-dec.ensures.opened in
    err_of _ c.finish.result (λ r ends early. absurd (early (release_after r opened.passphrase c.in_ok-front.front.bytes task.outfile (g.H.Host.seen c.«open».new.host) (g.H.Host.seen c.finish.new.host) ends)))
    (c.finish.ensures.ends t opened.passphrase c.in_ok-front.front.bytes opened.read)

pub returns-clause-work : goal.returns-clause-work
returns-clause-work g c = λ t whole.
    let s = g.H.Host.seen c.args.host.now in
    let task = task_view c.args.task.now in
    let same_costs =
    c.in_ok-admitted.ensures.costs ∙ ap (costs_with_allowed_keep (allowance_of task)) (c.costs.ensures.costs ∙ (c.in_ok-front.ensures.front t).costs) in
    always_ok c.finish.result (whole_work _ _ _ _ (allowance_of task) (costs_of s.input) _ _ same_costs whole c.in_ok-dec.ensures.work.done)

pub returns-clause-work_bound : goal.returns-clause-work_bound
returns-clause-work_bound g c =
    let admitted = c.in_ok-admitted.admitted in
    let few : cores_bound admitted.sparse ≤ c.args.task.now.limits.max_ops = subst (λ l. cores_bound admitted.sparse ≤ l.max_ops) c.in_ok-admitted.ensures.limits admitted.within.work in
    works_within _ g.H.Host.tells _ c.in_ok-front.front.header.salt admitted.sparse c.args.ticks.now c.«open».new.ticks c.args.task.now.limits.max_ops few c.in_ok-dec.ensures.work

pub returns-clause-memory : goal.returns-clause-memory
returns-clause-memory g c =
    let task = task_view c.args.task.now in
    let same_costs = c.in_ok-admitted.ensures.costs ∙ ap (costs_with_allowed_keep (allowance_of task)) c.costs.ensures.costs in
    header_granted_before g.H.Host.tells (g.H.Host.seen c.args.host.now).input (source_after_workspace_request g.R.RunMemory.after_workspace c.args.memory.now task) c.finish.result
    c.args.memory.now c.«open».new.memory c.in_ok-front.front.header.costs (λ t. (c.in_ok-front.ensures.front t).costs)
    (c.in_ok-dec.ensures.memory ∙ ap (λ (sparse : CostsAndKeep). g.R.RunMemory.after_workspace c.args.memory.now sparse true) same_costs) c.finish.ensures.late
