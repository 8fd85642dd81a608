use Rattle.std.proofs.Common.{◌≡◌, ◌∙◌, List, arith, ap, map, string_bytes, subst}
use Rattle.host.specs.Faults.{Faults}
use Rattle.host.specs.HostState.{Text}
use Rattle.host.specs.Lines.{SaysOneLine, after_line}
use Rattle.argon2_words.specs.Refusal.{faults_after_refusal, line_of}
use Rattle.argon2_command.proofs.Refusals.{due_is_told, host_kept, not_refused, words_taken}
use Rattle.argon2_command.proofs.run.argon2.Goals as goal

pub returns-in-Ok-clause-ends : goal.returns-in-Ok-clause-ends
returns-in-Ok-clause-ends g c =
    let words : List Text = map string_bytes c.args.words.now in
    record {
      counts = λ _. c.in-Ok.ensures.counts;
      words_accepted = λ _. words_taken words c.in-Ok.ensures.some_input;
      words_refused = λ due refused. absurd (not_refused words due refused c.in-Ok.ensures.some_input);
      some_input = λ _. c.in-Ok.ensures.some_input;
      succeeds = λ t _. c.in-Ok.ensures.succeeds t;
      refuses = λ one. absurd (omega (arith, one));
    }

pub returns-in-Err-clause-ends : goal.returns-in-Err-clause-ends
returns-in-Err-clause-ends g c =
    let words : List Text = map string_bytes c.args.words.now in
    let seen = g.H.Host.seen c.args.host.now in
    let unsaid = g.H.Host.seen c.run_without_report.new.host in
    let said = g.H.Host.seen c.refuse.new.host in
    let counted = g.H.Host.faults c.args.host.now in
    let raised = faults_after_refusal c.in-Err.refusal counted in
    let counted_at_end = g.H.Host.faults c.refuse.new.host in
    let says : Text → Faults → Type 0 = λ line f. SaysOneLine g.H.Host.tells line unsaid said f counted_at_end in
    let line_said = subst (λ line. says line raised) c.line.ensures.line (subst (says c.line.result.now) c.in-Err.ensures.counts c.refuse.ensures.says) in
    record {
      counts = λ done. absurd (omega (arith, done, c.refuse.ensures.status));
      words_accepted = λ done. absurd (omega (arith, done, c.refuse.ensures.status));
      words_refused = λ due refused.
          let told : c.in-Err.refusal ≡ due = due_is_told words due refused c.in-Err.refusal c.in-Err.ensures.some_input in
          let at : SaysOneLine g.H.Host.tells (line_of due) unsaid said (faults_after_refusal due counted) counted_at_end =
          subst (λ r. says (line_of r) (faults_after_refusal r counted)) told line_said in (
            c.refuse.ensures.status,
            record {
              said = at.said;
              counts = at.counts;
              seen = λ tells. at.seen tells ∙ ap (after_line at.said (line_of due)) (host_kept words due refused c.in-Err.refusal seen unsaid (c.in-Err.ensures.refused tells));
            },
          );
      some_input = λ done. absurd (omega (arith, done, c.refuse.ensures.status));
      succeeds = λ _ done. absurd (omega (arith, done, c.refuse.ensures.status));
      refuses = λ _. record {
        told = c.in-Err.refusal;
        unsaid = unsaid;
        some_input = c.in-Err.ensures.some_input;
        says = line_said;
        refused = c.in-Err.ensures.refused;
      };
    }
