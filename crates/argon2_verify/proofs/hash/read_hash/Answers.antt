use Rattle.std.proofs.Common.{◌≤◌, List, ℕ, inl, inr, length, take, refl, subst, rules, arith}
use Rattle.std.proofs.lemmas.Grind.{common_steps}
use Rattle.argon_text.specs.Answer.{IsReadFaultOfText}
use Rattle.argon2_verify.specs.Inside.Steps.{RefusesHash}
use Rattle.argon2_verify.specs.Reading.{hash_line}
use Rattle.argon2_verify.proofs.hash.read_hash.Goals as goal

pub returns-in_err-len-clause-refused : goal.returns-in_err-len-clause-refused
returns-in_err-len-clause-refused g c =
    let s = g.H.Host.seen c.args.host.now in
    let kept : RefusesHash g.R.DecodeMemory.after_decoded g.H.Host.tells c.args.file.now c.in_err-len.field-0.0 s (g.H.Host.seen c.read_line.new.host)
    c.args.memory.now c.args.memory.now = record {
      refused = λ t. c.in_err-len.ensures.refused t;
      memory = record {
        line = hash_line s.input;
        is = λ _. refl;
        left = inl (c.in_err-len.ensures.early, refl);
      };
    } in
    search (rules, kept)

pub returns-in-Err-clause-refused : goal.returns-in-Err-clause-refused
returns-in-Err-clause-refused g c = record {
  refused = λ t.
      let line = c.in_ok-len.ensures.line t in
      let came : List ℕ = take c.in_ok-len.len c.read_line.new.buf in
      let short : length came ≤ 8191 = grind (arith, common_steps, c.in_ok-len.ensures.short) in
      inr (inr (
        c.in_ok-len.ensures.apart t,
        inr (
          subst (λ xs. length xs ≤ 8191) line short,
          (c.in-Err.fault, subst (λ xs. IsReadFaultOfText xs c.in-Err.fault) line c.in-Err.ensures.answer, c.read_refusal.ensures.refusal),
        ),
        c.in_ok-len.ensures.read t,
      ));
  memory = record {
    line = take c.in_ok-len.len c.read_line.new.buf;
    is = λ t. c.in_ok-len.ensures.line t;
    left = inr (c.in-Err.fault, c.read_refusal.ensures.refusal, c.in-Err.ensures.refused);
  };
}
