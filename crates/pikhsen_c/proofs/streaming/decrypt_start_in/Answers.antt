use Rattle.std.proofs.Common.{◌≡◌, ℕ, List, Some, take, ap, arith, false, inr, refl, rules, sym, true, ◌∙◌}
use Rattle.encfile.specs.Decrypting.{DecryptionHasRead}
use Rattle.encfile.specs.declared.dec.Dec.{Dec}
use Rattle.pikhsen_c.specs.Heap.{after_workspace_request}
use Rattle.pikhsen_c.specs.declared.heap.Heap.{Heap}
use Rattle.pikhsen_c.specs.Stream.{StreamHasRead}
use Rattle.pikhsen_c.specs.declared.stream.PikhsenStream.{PikhsenStream}
use Rattle.pikhsen_c.specs.declared.stream.StreamState.{StreamState}
use Rattle.pikhsen_c.specs.declared.stream.StreamState.TheVariants as running
use Rattle.pikhsen_c.proofs.FrontStatus.{start_is}
use Rattle.pikhsen_c.proofs.streaming.decrypt_start_in.Goals as goal

-- a stream that keeps a decryption has read what that has read
keeps_reading : (stream : PikhsenStream) (run : StreamState) (dec : Dec) (passphrase file : List ℕ) → stream.runs ≡ 2
    → stream.kept.value ≡ Some run → run ≡ running.Dec dec → DecryptionHasRead dec passphrase file
    → StreamHasRead stream passphrase file
keeps_reading stream run dec passphrase file runs kept is read = record { runs = runs; kept = rw (kept, is) read }

pub begin-requires : goal.begin-requires
begin-requires c = record {
  ok = record {
    empty = search rules;
    one = search rules;
    encryption = search rules;
    decryption = search rules;
  };
}

pub returns-in-Ok-start_decryption-clause-stream : goal.returns-in-Ok-start_decryption-clause-stream
returns-in-Ok-start_decryption-clause-stream c =
    let opened = c.in-Ok-start_decryption.ensures.opened in
    record {
      begun = λ _. keeps_reading c.begin.new.self c.replace.new.b.value c.in-Ok-start_decryption.dec c.args.passphrase.now
          (take 96 c.args.front.now) c.begin.ensures.runs c.begin.ensures.kept c.replace.ensures.after opened.opened;
      nothing = λ _. opened.nothing;
      right = λ _. opened.right;
      wrong = λ wrong. absurd (omega (arith, wrong));
    }

pub returns-in-Err-start_decryption-clause-stream : goal.returns-in-Err-start_decryption-clause-stream
returns-in-Err-start_decryption-clause-stream c = record {
  begun = λ done. absurd (omega (arith, done, c.in-Err-start_decryption.ensures.at_least_1));
  nothing = λ done. absurd (omega (arith, done, c.in-Err-start_decryption.ensures.at_least_1));
  right = λ done. absurd (omega (arith, done, c.in-Err-start_decryption.ensures.at_least_1));
  wrong = c.in-Err-start_decryption.ensures.wrong;
}

pub returns-in-Ok-start_decryption-clause-first : goal.returns-in-Ok-start_decryption-clause-first
returns-in-Ok-start_decryption-clause-first c =
    let limits = c.args.limits.now in
    let same = start_is c.args.stream.now.runs c.args.front.now limits.keep limits.max_bytes limits.max_ops
    (omega (arith, c.if-stream-ne0.false)) (omega (arith, c.if-front-lt96.false)) in
    let passed = c.in-Ok-start_decryption.ensures.first.fault (λ memory. omega (arith, memory)) (λ wrong. omega (arith, wrong)) in
    record {
      fault = λ _ _. passed ∙ sym same;
      memory = λ memory. absurd (omega (arith, memory));
      late = λ wrong. absurd (omega (arith, wrong));
    }

pub returns-in-Ok-start_decryption-clause-asked : goal.returns-in-Ok-start_decryption-clause-asked
returns-in-Ok-start_decryption-clause-asked c = record {
  asked = λ _. c.in-Ok-start_decryption.ensures.asked.asked refl
      ∙ ap (λ (heap : Heap). after_workspace_request heap true) c.in-Ok.ensures.asked;
  asked_if_wrong = λ wrong. absurd (omega (arith, wrong));
  refused = λ refused. absurd (omega (arith, refused));
  unasked = λ some _ _. absurd (some refl);
}

pub returns-in-Err-start_decryption-clause-first : goal.returns-in-Err-start_decryption-clause-first
returns-in-Err-start_decryption-clause-first c =
    let limits = c.args.limits.now in
    let same = start_is c.args.stream.now.runs c.args.front.now limits.keep limits.max_bytes limits.max_ops
    (omega (arith, c.if-stream-ne0.false)) (omega (arith, c.if-front-lt96.false)) in
    record {
      fault = λ memory wrong. c.in-Err-start_decryption.ensures.first.fault memory wrong ∙ sym same;
      memory = λ memory. same ∙ c.in-Err-start_decryption.ensures.first.memory memory;
      late = λ wrong. same ∙ c.in-Err-start_decryption.ensures.first.late wrong;
    }

pub returns-in-Err-start_decryption-clause-asked : goal.returns-in-Err-start_decryption-clause-asked
returns-in-Err-start_decryption-clause-asked c =
    let granted = ap (λ (heap : Heap). after_workspace_request heap true) c.in-Ok.ensures.asked in
    let refused = ap (λ (heap : Heap). after_workspace_request heap false) c.in-Ok.ensures.asked in
    record {
      asked = λ done. absurd (omega (arith, done, c.in-Err-start_decryption.ensures.at_least_1));
      asked_if_wrong = λ wrong. c.in-Err-start_decryption.ensures.asked.asked_if_late wrong ∙ granted;
      refused = λ memory. inr (c.in-Err-start_decryption.ensures.asked.refused memory ∙ refused);
      unasked = λ some memory wrong.
          absurd (some (c.in-Err-start_decryption.ensures.first.fault memory wrong ∙ c.in_default.ensures.refusal.status));
    }

pub returns-in-Err-clause-first : goal.returns-in-Err-clause-first
returns-in-Err-clause-first c =
    let limits = c.args.limits.now in
    let same = start_is c.args.stream.now.runs c.args.front.now limits.keep limits.max_bytes limits.max_ops
    (omega (arith, c.if-stream-ne0.false)) (omega (arith, c.if-front-lt96.false)) in
    record {
      fault = λ _ _. sym (same ∙ c.in-Err.ensures.refusal.status);
      memory = λ memory. absurd (c.in-Err.ensures.refusal.early.not_memory memory);
      late = λ wrong. absurd (c.in-Err.ensures.refusal.early.not_passphrase wrong);
    }

pub returns-in_default-block-clause-first : goal.returns-in_default-block-clause-first
returns-in_default-block-clause-first c =
    let limits = c.args.limits.now in
    let same = start_is c.args.stream.now.runs c.args.front.now limits.keep limits.max_bytes limits.max_ops
    (omega (arith, c.if-stream-ne0.false)) (omega (arith, c.if-front-lt96.false)) in
    record {
      fault = λ other _. absurd (other refl);
      memory = λ _. same ∙ c.in_default.ensures.refusal.status;
      late = λ wrong. absurd (omega (arith, wrong));
    }
