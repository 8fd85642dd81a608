use Rattle.std.proofs.Common.{◌≡◌, ◌∙◌, List, ap, arith, map, refl, string_bytes, subst}
use Rattle.host.specs.Faults.{Faults}
use Rattle.host.specs.Lines.{SaysOneLine, after_line}
use Rattle.host.specs.HostState.{Text}
use Rattle.argon2_verify.specs.Refusal.{faults_after_refusal, line_of}
use Rattle.argon2_verify.proofs.Ends.{differs, host_kept, not_refused, verifies}
use Rattle.argon2_verify.proofs.OneEnd.{err_or}
use Rattle.argon2_verify.proofs.run.argon2_verify.Goals as goal

pub returns-in-Ok-true-clause-ends : goal.returns-in-Ok-true-clause-ends
returns-in-Ok-true-clause-ends g c = record {
  counts = λ _. c.in-Ok-true.ensures.counts;
  words_refused = λ due refused. absurd (not_refused c.in-Ok-true.ensures.ends due refused);
  verifies = λ _. verifies c.in-Ok-true.ensures.ends c.in-Ok-true.field-0-test;
  differs = λ one. absurd (omega (arith, one));
  refuses = λ two. absurd (omega (arith, two));
}

pub returns-in-Ok-false-clause-ends : goal.returns-in-Ok-false-clause-ends
returns-in-Ok-false-clause-ends g c = record {
  counts = λ _. c.in-Ok-false.ensures.counts;
  words_refused = λ due refused. absurd (not_refused c.in-Ok-false.ensures.ends due refused);
  verifies = λ zero. absurd (omega (arith, zero));
  differs = λ _. differs c.in-Ok-false.ensures.ends c.in-Ok-false.field-0-test;
  refuses = λ two. absurd (omega (arith, two));
}

pub returns-in-Err-clause-ends : goal.returns-in-Err-clause-ends
returns-in-Err-clause-ends g c =
    let words : List Text = map string_bytes c.args.words.now in
    let seen = g.H.Host.seen c.args.host.now in
    let unsaid = g.H.Host.seen c.run_without_report.new.host in
    let said = g.H.Host.seen c.refuse.new.host in
    let counted = g.H.Host.faults c.args.host.now in
    let raised = faults_after_refusal c.in-Err.refusal counted in
    let counted_at_end = g.H.Host.faults c.refuse.new.host in
    let says : Text → Faults → Type 0 = λ line f. SaysOneLine g.H.Host.tells line unsaid said f counted_at_end in
    let line_said = subst (λ line. says line raised) c.line.ensures.line (subst (says c.line.result.now) c.in-Err.ensures.counts c.refuse.ensures.says) in
    record {
      counts = λ few. absurd (omega (arith, few));
      words_refused = λ due refused.
          let told : c.in-Err.refusal ≡ due = ap (err_or due) (c.in-Err.ensures.words due refused) in
          let at : SaysOneLine g.H.Host.tells (line_of due) unsaid said (faults_after_refusal due counted) counted_at_end =
          subst (λ r. says (line_of r) (faults_after_refusal r counted)) told line_said in (
            refl,
            record {
              said = at.said;
              counts = at.counts;
              seen = λ t. at.seen t ∙ ap (after_line at.said (line_of due)) (host_kept words due refused c.in-Err.refusal seen unsaid (c.in-Err.ensures.ends.refused t));
            },
          );
      verifies = λ zero. absurd (omega (arith, zero));
      differs = λ one. absurd (omega (arith, one));
      refuses = λ _. record {
        told = c.in-Err.refusal;
        unsaid = unsaid;
        says = line_said;
        refused = c.in-Err.ensures.ends.refused;
      };
    }
