use Rattle.std.proofs.Common.{rules, inl, ◌≡◌, ◌∙◌, Bool, ap, refl}
use Rattle.host.specs.Faults.{Faults, no_faults}
use Rattle.host.specs.Lines.{faults_after_line}
use Rattle.argon2_command.specs.Run.{IsRefused}
use Rattle.argon2_words.specs.Refusal.{faults_after_refusal}
use Rattle.argon2_words.specs.declared.refusal.Argon2Refusal.{Argon2Refusal}
use Rattle.argon2_words.specs.declared.refusal.Argon2Refusal.TheVariants as refusal
use Rattle.argon2_program.proofs.Ends.{no-lines, of-words, unsaid-words}
use Rattle.tools.proofs.Ends.{faults-refused, of-start, says-line}
use Rattle.tools.specs.RunState.{host_seen}
use Rattle.argon2_program.proofs.program.run.Goals as goal

pub returns-in-Ok-clause-fails : goal.returns-in-Ok-clause-fails
returns-in-Ok-clause-fails g c = λ t.
    let ends = c.refuse.ensures in
    let run = c.in-Err.ensures in
    let r = c.in-Err.refusal in
    faults-refused _ _ _ _ _ (faults_after_refusal r) _ _ _ _ _ _ t c.new-host.ensures.host.seen (c.requires.unused t).output (c.requires.unused t).unsaid
    c.new-host.ensures.host.counts run.counts (no-lines r) (λ none. of-words r _ _ _ none (run.refused t))
    (λ none. unsaid-words r _ _ _ none (run.refused t)) ends.says (ends.fails t) (ends.line t)

pub returns-in-Ok-clause-refuses : goal.returns-in-Ok-clause-refuses
returns-in-Ok-clause-refuses g c = λ t _.
    let ends = c.refuse.ensures.says in
    let run = c.in-Err.ensures in
    let unsaid = host_seen c.run_without_report.new.host.run in
    record {
      seen = ends.seen;
      leaves = ends.leaves t;
      refuses = inl (record {
        told = c.in-Err.refusal;
        unsaid = unsaid;
        some_input = search rules;
        says = says-line _ _ _ unsaid unsaid _ _ _ _ c.line.ensures.line refl
            (run.counts ∙ ap (faults_after_refusal c.in-Err.refusal) c.new-host.ensures.host.counts) ends.says;
        refused = λ told. of-start (λ w s. IsRefused c.in-Err.refusal w s unsaid) _ _ _ _ (search rules) c.new-host.ensures.host.seen (run.refused told);
      });
      asks = λ _. ends.asks t;
    }

-- the refusal of words that cannot be read
counted : (r : Argon2Refusal) (all : Faults) → (said : Bool) × (all ≡ faults_after_line said (faults_after_refusal r no_faults))
    → (told : Argon2Refusal) × (said : Bool) × (all ≡ faults_after_line said (faults_after_refusal told no_faults))
counted r all (said, same) = (r, said, same)

pub returns-in-Err-NotText-clause-counts_refusal : goal.returns-in-Err-NotText-clause-counts_refusal
returns-in-Err-NotText-clause-counts_refusal g c = λ _. counted refusal.Usage _ (search rules)

pub returns-clause-counts_refusal : goal.returns-clause-counts_refusal
returns-clause-counts_refusal g c = λ _. counted refusal.OutOfMemory _ (search rules)
