use Rattle.std.proofs.Common.{rules, sym, ◌∙◌}
use Rattle.encfile.proofs.Reading.{code_by_encryption, encryption_by_code}
use Rattle.encfile.proofs.dec.Dec.finish.Goals as goal

pub returns-then-is : goal.returns-then-is
returns-then-is c = record {
  tells = record {
    whole = λ passphrase file h.
        let code = c.finish.ensures.code _ _ h.state.code in
        encryption_by_code file passphrase h.salt h.costs h.done h.held h.split h.below_limit (sym h.state.held ∙ c.is.ensures.same.0 c.if-is.true ∙ code);
    damaged = tt;
  };
}

pub returns-else-is : goal.returns-else-is
returns-else-is c = record {
  tells = record {
    whole = tt;
    damaged = λ passphrase file h whole.
        let code = c.finish.ensures.code _ _ h.state.code in
        let same = h.state.held ∙ code_by_encryption file passphrase h.salt h.costs h.done h.held h.split whole ∙ sym code in
        search (rules, c.is.ensures.same.1 same);
  };
}
