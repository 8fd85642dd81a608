use Rattle.std.proofs.Common.{rules, ◌∙◌, inl, inr, ◌≡◌, Bool, true, false, List, Option, None, if◌then◌else◌, is_none, refl, sym, subst, ap}
use Rattle.host.specs.Faults.{Faults, no_faults, with_output_failure_counted}
use Rattle.host.specs.Lines.{SaysOneLine, faults_after_line}
use Rattle.host.specs.HostState.{HostState, Text}
use Rattle.scrypt_command.proofs.Endings as endings
use Rattle.scrypt_command.specs.Run.{IsRefused, Succeeds}
use Rattle.scrypt_request.specs.Refusal.{faults_after_refusal, line_of}
use Rattle.scrypt_request.specs.Request.{Request, encrypt, decrypt, inspect}
use Rattle.scrypt_run.specs.Run.{ScryptRequestSucceeds}
use Rattle.scrypt_program.specs.Program.{FailsSync}
use Rattle.tools.specs.RunState.{RunState, host_seen}
use Rattle.tools.specs.SystemState.{IsOutputUnsynced, SystemState}
use Rattle.scrypt_request.specs.declared.refusal.ScryptRefusal.{ScryptRefusal}
use Rattle.scrypt_request.specs.declared.refusal.ScryptRefusal.TheVariants as refusal
use Rattle.scrypt_program.proofs.Ends.{no-lines, of-words, unsaid-done, unsaid-words}
use Rattle.tools.proofs.Ends.{faults-refused, faults-synced, of-start, says-line}
use Rattle.scrypt_program.proofs.program.run.Goals as goal

-- a run that did what it was asked for has an output
opens-by : (r : Request) (before after : HostState) → ScryptRequestSucceeds r before after → is_none after.output_opened ≡ false
opens-by (encrypt asked) before after s = ap (λ (t : HostState). is_none t.output_opened) s.encrypted.written
opens-by (decrypt task) before after s = ap (λ (t : HostState). is_none t.output_opened) s.decrypted.released
opens-by (inspect infile) before after s = ap (λ (t : HostState). is_none t.output_opened) s.written

IsTrueThen : Bool → Type 0
IsTrueThen false = Unit {0}
IsTrueThen true = ⊥

used-where : (is_used : Bool) (asked : Option (Option Text)) → is_none (if is_used then asked else None) ≡ false → is_used ≡ true
unfolding IsTrueThen
used-where true asked some = refl
used-where false asked some = elim (subst IsTrueThen (sym some) tt) [ ]

writable : (words : List Text) (h : RunState) (before : HostState) → Succeeds words before (host_seen h) → h.grants.writable ≡ true
writable words h before s = used-where h.grants.writable h.state.output_asked (opens-by s.request before (host_seen h) s.succeeds)

-- the output could not be brought to the disk
fails-sync : (tells : Bool) (words given : List Text) (before host unsaid after : HostState) (left : SystemState) (told : Text) (counts faults : Faults)
    → SaysOneLine tells told unsaid after (with_output_failure_counted counts) faults → Succeeds given host unsaid → told ≡ line_of refusal.OutputFault
    → counts ≡ no_faults → given ≡ words → host ≡ before → IsOutputUnsynced left → FailsSync tells words before after left faults
fails-sync tells words given before host unsaid after left told counts faults says succeeds is counted same seen output_unsynced = record {
  unsaid = unsaid;
  succeeds = subst (λ w. Succeeds w before unsaid) same (subst (λ s. Succeeds given s unsaid) seen succeeds);
  says = says-line tells (line_of refusal.OutputFault) told unsaid unsaid after (faults_after_refusal refusal.OutputFault no_faults) (with_output_failure_counted counts) faults is
      refl (ap with_output_failure_counted counted) says;
  output_unsynced = output_unsynced;
}

pub returns-in-Ok-run_without_report-clause-succeeds : goal.returns-in-Ok-run_without_report-clause-succeeds
returns-in-Ok-run_without_report-clause-succeeds g c = λ t done.
    let synced = c.sync_and_end.ensures.synced done in
    let succeeds = endings.succeeds c.in-Ok-run_without_report.ensures.ends t in
    let seen = host_seen c.run_without_report.new.host.run in
    record {
      seen = seen;
      leaves = synced.leaves t;
      succeeds = of-start (λ w s. Succeeds w s seen) _ _ _ _ (search rules) c.new-host.ensures.host.seen succeeds;
      output_synced = synced.output_synced t;
    }

pub returns-in-Ok-run_without_report-clause-refuses : goal.returns-in-Ok-run_without_report-clause-refuses
returns-in-Ok-run_without_report-clause-refuses g c = λ t failed.
    let unsynced = c.sync_and_end.ensures.unsynced failed in
    let ends = unsynced.says in
    let succeeds = endings.succeeds c.in-Ok-run_without_report.ensures.ends t in
    record {
      seen = ends.seen;
      leaves = ends.leaves t;
      refuses = inr (inr (inr (fails-sync _ _ _ _ _ _ _ _ _ _ _ ends.says succeeds c.line.ensures.line
          (c.in-Ok-run_without_report.ensures.counts ∙ c.new-host.ensures.host.counts) (search rules) c.new-host.ensures.host.seen
          (unsynced.output_unsynced t (writable _ c.run_without_report.new.host.run _ succeeds)))));
      asks = λ _. ends.asks t;
    }

pub returns-in-Ok-run_without_report-clause-counts_refusal : goal.returns-in-Ok-run_without_report-clause-counts_refusal
returns-in-Ok-run_without_report-clause-counts_refusal g c = λ failed.
    let says = (c.sync_and_end.ensures.unsynced failed).says.says in
    let none = c.in-Ok-run_without_report.ensures.counts ∙ c.new-host.ensures.host.counts in
    (refusal.OutputFault, says.said, says.counts ∙ ap (λ (f : Faults). faults_after_line says.said (with_output_failure_counted f)) none)

pub returns-in-Ok-run_without_report-clause-fails : goal.returns-in-Ok-run_without_report-clause-fails
returns-in-Ok-run_without_report-clause-fails g c = λ t.
    let ends = c.sync_and_end.ensures in
    let succeeds = endings.succeeds c.in-Ok-run_without_report.ensures.ends t in
    let none = c.in-Ok-run_without_report.ensures.counts ∙ c.new-host.ensures.host.counts in
    faults-synced _ _ _ _ _ _ _ _ _ ends.status (λ done. (ends.synced done).counts) (λ failed. (ends.unsynced failed).says)
    none (ends.fails t (writable _ c.run_without_report.new.host.run _ succeeds))
    (ends.line t (ap (λ (f : Faults). f.lines) none) (unsaid-done _ _ _ _ c.new-host.ensures.host.seen (c.requires.unused t).unsaid succeeds))

pub returns-in-Ok-clause-refuses : goal.returns-in-Ok-clause-refuses
returns-in-Ok-clause-refuses g c = λ t _.
    let ends = c.refuse.ensures.says in
    let run = c.in-Err.ensures in
    let unsaid = host_seen c.run_without_report.new.host.run in
    record {
      seen = ends.seen;
      leaves = ends.leaves t;
      refuses = inl (record {
        told = c.in-Err.refusal;
        unsaid = unsaid;
        says = says-line _ _ _ unsaid unsaid _ _ _ _ c.line-in-Err.ensures.line refl
            (run.counts ∙ ap (faults_after_refusal c.in-Err.refusal) c.new-host.ensures.host.counts) ends.says;
        refused = λ told. of-start (λ w s. IsRefused c.in-Err.refusal w s unsaid) _ _ _ _ (search rules) c.new-host.ensures.host.seen (endings.is_refused run.ends told);
      });
      asks = λ _. ends.asks t;
    }

pub returns-in-Ok-clause-fails : goal.returns-in-Ok-clause-fails
returns-in-Ok-clause-fails g c = λ t.
    let ends = c.refuse.ensures in
    let run = c.in-Err.ensures in
    let r = c.in-Err.refusal in
    faults-refused _ _ _ _ _ (faults_after_refusal r) _ _ _ _ _ _ t c.new-host.ensures.host.seen (c.requires.unused t).output (c.requires.unused t).unsaid
    c.new-host.ensures.host.counts run.counts (no-lines r) (λ none. of-words r _ _ _ none (endings.is_refused run.ends t))
    (λ none. unsaid-words r _ _ _ none (endings.is_refused run.ends t)) ends.says (ends.fails t) (ends.line t)

-- the refusal of words that cannot be read
counted : (r : ScryptRefusal) (all : Faults) → (said : Bool) × (all ≡ faults_after_line said (faults_after_refusal r no_faults))
    → (told : ScryptRefusal) × (said : Bool) × (all ≡ faults_after_line said (faults_after_refusal told no_faults))
counted r all (said, same) = (r, said, same)

pub returns-in-Err-NotText-clause-counts_refusal : goal.returns-in-Err-NotText-clause-counts_refusal
returns-in-Err-NotText-clause-counts_refusal g c = λ _. counted refusal.Usage _ (search rules)

pub returns-clause-counts_refusal : goal.returns-clause-counts_refusal
returns-clause-counts_refusal g c = λ _. counted refusal.OutOfMemory _ (search rules)
