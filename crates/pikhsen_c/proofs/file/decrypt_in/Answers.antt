use Rattle.std.proofs.Common.{◌≡◌, ◌-◌, ℕ, List, length, take, drop, replicate, arith, refl, sym, subst, ◌∙◌}
use Rattle.std.proofs.lemmas.Grind.{common_steps}
use Rattle.std.proofs.lemmas.Slice.{take-put_mid_below}
use borrow.Rule.Slice.PartMut.{put_mid}
use Rattle.encfile.specs.EncryptedFile.{IsEncryptionOf}
use Rattle.pikhsen_c.proofs.FrontStatus.{front_is}
use Rattle.pikhsen_c.proofs.file.decrypt_in.Goals as goal

pub returns-in-Err-clause-first : goal.returns-in-Err-clause-first
returns-in-Err-clause-first g c =
    let limits = c.args.limits.now in
    let same = front_is c.args.file.now limits.keep limits.max_bytes limits.max_ops (length c.args.out.now)
    (omega (arith, c.if-out-file.false)) (omega (arith, c.if-file-lt96.false)) in
    record {
      fault = λ memory early. c.in-Err.ensures.first.fault memory (λ wrong. early (omega (arith, wrong))) ∙ sym same;
      memory = λ memory. same ∙ c.in-Err.ensures.first.memory memory;
      late = λ late. same ∙ c.in-Err.ensures.first.late (omega (arith, late, c.in-Err.ensures.below));
    }

pub returns-in-Err-clause-text : goal.returns-in-Err-clause-text
returns-in-Err-clause-text g c = record {
  whole = λ done. absurd (omega (arith, done, c.in-Err.ensures.at_least_1));
  rest = λ done. absurd (omega (arith, done, c.in-Err.ensures.at_least_1));
  nothing = λ _. refl;
  zeros = λ late. absurd (omega (arith, late, c.in-Err.ensures.below));
  untouched = λ _ _. refl;
}

pub returns-in-Err-clause-verdict : goal.returns-in-Err-clause-verdict
returns-in-Err-clause-verdict g c = record {
  wrong = c.in-Err.ensures.wrong;
  right = λ late. absurd (omega (arith, late, c.in-Err.ensures.below));
  damaged = λ told. absurd (omega (arith, told, c.in-Err.ensures.below));
  too_long = λ told. absurd (omega (arith, told, c.in-Err.ensures.below));
  high = omega (arith, c.in-Err.ensures.below);
}

pub returns-in-Ok-decrypt_rest-clause-text : goal.returns-in-Ok-decrypt_rest-clause-text
returns-in-Ok-decrypt_rest-clause-text g c =
    let text : List ℕ = c.decrypt_rest.new.out in
    let len : ℕ = c.in-Ok-decrypt_rest.len in
    let written : List ℕ = put_mid len (length text - len) text c.fill.new.self in
    let front : take len written ≡ take len text =
    take-put_mid_below len (length text - len) text c.fill.new.self len (omega arith) c.in-Ok-decrypt_rest.ensures.within in
    let rest : drop len written ≡ replicate (length text - len) 0 = grind (arith, common_steps) in
    record {
      whole = λ _. subst (λ (found : List ℕ). IsEncryptionOf c.args.file.now c.args.passphrase.now found) (sym front)
          (c.in-Ok-decrypt_rest.ensures.whole c.args.passphrase.now c.in-Ok.ensures.opened);
      rest = λ _. subst (λ (n : ℕ). drop len written ≡ replicate (n - len) 0) c.decrypt_rest.auto.out rest;
      nothing = λ some. absurd (some refl);
      zeros = λ late. absurd (omega (arith, late));
      untouched = λ some _. absurd (some refl);
    }

pub returns-in-Ok-decrypt_rest-clause-first : goal.returns-in-Ok-decrypt_rest-clause-first
returns-in-Ok-decrypt_rest-clause-first g c =
    let limits = c.args.limits.now in
    let same = front_is c.args.file.now limits.keep limits.max_bytes limits.max_ops (length c.args.out.now)
    (omega (arith, c.if-out-file.false)) (omega (arith, c.if-file-lt96.false)) in
    let passed = c.in-Ok.ensures.first.fault (λ memory. omega (arith, memory)) (λ wrong. omega (arith, wrong)) in
    record {
      fault = λ _ _. passed ∙ sym same;
      memory = λ memory. absurd (omega (arith, memory));
      late = λ late. absurd (omega (arith, late));
    }

pub returns-in-Err-decrypt_rest-clause-first : goal.returns-in-Err-decrypt_rest-clause-first
returns-in-Err-decrypt_rest-clause-first g c =
    let limits = c.args.limits.now in
    let same = front_is c.args.file.now limits.keep limits.max_bytes limits.max_ops (length c.args.out.now)
    (omega (arith, c.if-out-file.false)) (omega (arith, c.if-file-lt96.false)) in
    let passed = c.in-Ok.ensures.first.fault (λ memory. omega (arith, memory)) (λ wrong. omega (arith, wrong)) in
    record {
      fault = λ _ early. absurd (early (omega (arith, c.in-Err-decrypt_rest.ensures.at_least_28)));
      memory = λ memory. absurd (omega (arith, memory, c.in-Err-decrypt_rest.ensures.at_least_28));
      late = λ _. same ∙ sym passed;
    }

pub returns-in-Err-decrypt_rest-clause-verdict : goal.returns-in-Err-decrypt_rest-clause-verdict
returns-in-Err-decrypt_rest-clause-verdict g c = c.in-Err-decrypt_rest.ensures.verdict c.args.passphrase.now c.in-Ok.ensures.opened

pub returns-in-Err-clause-asked : goal.returns-in-Err-clause-asked
returns-in-Err-clause-asked g c = record {
  asked = λ done. absurd (omega (arith, done, c.in-Err.ensures.at_least_1));
  asked_if_late = λ late. c.in-Err.ensures.asked.asked_if_late (omega (arith, late, c.in-Err.ensures.below));
  refused = λ memory. c.in-Err.ensures.asked.refused memory;
  unasked = λ some memory early. c.in-Err.ensures.asked.unasked some memory (λ wrong. early (omega (arith, wrong)));
}

pub returns-in-Ok-decrypt_rest-clause-asked : goal.returns-in-Ok-decrypt_rest-clause-asked
returns-in-Ok-decrypt_rest-clause-asked g c = record {
  asked = λ _. c.in-Ok.ensures.asked.asked refl;
  asked_if_late = λ late. absurd (omega (arith, late));
  refused = λ memory. absurd (omega (arith, memory));
  unasked = λ some _ _. absurd (some refl);
}

pub returns-in-Err-decrypt_rest-clause-asked : goal.returns-in-Err-decrypt_rest-clause-asked
returns-in-Err-decrypt_rest-clause-asked g c = record {
  asked = λ done. absurd (omega (arith, done, c.in-Err-decrypt_rest.ensures.at_least_28));
  asked_if_late = λ _. c.in-Ok.ensures.asked.asked refl;
  refused = λ memory. absurd (omega (arith, memory, c.in-Err-decrypt_rest.ensures.at_least_28));
  unasked = λ _ _ early. absurd (early (omega (arith, c.in-Err-decrypt_rest.ensures.at_least_28)));
}
