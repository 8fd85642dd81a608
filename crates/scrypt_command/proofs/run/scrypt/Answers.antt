use Rattle.std.proofs.Common.{◌∙◌, arith, subst}
use Rattle.host.specs.Faults.{Faults}
use Rattle.host.specs.HostState.{HostState, Text}
use Rattle.host.specs.Lines.{SaysOneLine}
use Rattle.scrypt_request.specs.Refusal.{faults_after_refusal}
use Rattle.scrypt_command.proofs.Endings.{fits, is_refused, not_refused, raises_no_count, stops_at_words, succeeds, words_taken}
use Rattle.scrypt_command.proofs.run.scrypt.Goals as goal

pub returns-in-Ok-clause-ends : goal.returns-in-Ok-clause-ends
returns-in-Ok-clause-ends g c = record {
  counts = λ _. c.in-Ok.ensures.counts;
  words_accepted = λ _. words_taken c.in-Ok.ensures.ends;
  words_refused = λ due refused. absurd (not_refused due refused c.in-Ok.ensures.ends);
  succeeds = λ t _. succeeds c.in-Ok.ensures.ends t;
  refuses = λ one. absurd (omega (arith, one));
}

pub returns-in-Err-clause-ends : goal.returns-in-Err-clause-ends
returns-in-Err-clause-ends g c =
    let before = g.H.Host.seen c.args.host.now in
    let unsaid = g.H.Host.seen c.run_without_report.new.host in
    let counted = g.H.Host.faults c.args.host.now in
    let raised = faults_after_refusal c.in-Err.refusal counted in
    let says : Text → HostState → Faults → Type 0 =
    λ line s f. SaysOneLine g.H.Host.tells line s (g.H.Host.seen c.refuse.new.host) f (g.H.Host.faults c.refuse.new.host) in
    record {
      counts = λ done. absurd (omega (arith, done, c.refuse.ensures.status));
      words_accepted = λ done. absurd (omega (arith, done, c.refuse.ensures.status));
      words_refused = λ due refused.
          let stops = stops_at_words due refused c.in-Err.ensures.ends in (
            c.refuse.ensures.status,
            record {
              told = c.in-Err.refusal;
              fits = fits due refused stops;
              says = subst (λ line. says line before counted) c.line.ensures.line
                  (subst (λ s. says c.line.result.now s counted) stops.refused.1
                  (subst (says c.line.result.now unsaid) (c.in-Err.ensures.counts ∙ raises_no_count stops counted) c.refuse.ensures.says));
            },
          );
      succeeds = λ _ done. absurd (omega (arith, done, c.refuse.ensures.status));
      refuses = λ _. record {
        told = c.in-Err.refusal;
        unsaid = unsaid;
        says = subst (λ line. says line unsaid raised) c.line.ensures.line (subst (says c.line.result.now unsaid) c.in-Err.ensures.counts c.refuse.ensures.says);
        refused = λ t. is_refused c.in-Err.ensures.ends t;
      };
    }
