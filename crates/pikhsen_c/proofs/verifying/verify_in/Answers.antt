use Rattle.std.proofs.Common.{◌≡◌, ◌≤◌, ◌∙◌, ◌||◌, ℕ, Bool, true, false, not, nat_le, nat_lt, List, length, Some, None, ap, arith, inr, refl, subst, sym, if◌then◌else◌}
use Rattle.std.proofs.lemmas.Bool.{ltb-false}
use Rattle.argon.specs.Argon2.{block_count}
use Rattle.argon.specs.Counts.{work}
use Rattle.argon_text.specs.EncodedText.{IsEncodedTextOf}
use Rattle.argon_text.specs.Value.{IsEncodableValue, Value}
use Rattle.argon_text.specs.Verifying.{keyed_verify_fault, parameters_of_value}
use Rattle.argon_text.specs.View.{encoded_value_of_hash_view}
use Rattle.argon_text.specs.declared.fault.VerifyFault.TheVariants.{PasswordLength, InputLength, MemoryLimit, WorkLimit}
use Rattle.pikhsen_c.proofs.verifying.verify_in.Goals as goal

-- four tests, in the order of the faults: where none is told, the last does not hold
last_of_none : (password input memory ops : Bool)
    → (if not password then Some PasswordLength
    else if input then Some InputLength
    else if memory then Some MemoryLimit
    else if ops then Some WorkLimit
    else None) ≡ None
    → ops ≡ false
last_of_none true true memory ops told = absurd (cc)
last_of_none true false true ops told = absurd (cc)
last_of_none true false false true told = absurd (cc)
last_of_none true false false false told = refl
last_of_none false input memory ops told = absurd (cc)

-- where nothing refuses the test of a password, its work is within the limit
work_within : (v : Value) (password : List ℕ) (secret_len associated_len max_kib max_ops : ℕ)
    → keyed_verify_fault v password secret_len associated_len max_kib max_ops ≡ None
    → work (parameters_of_value v password) ≤ max_ops
work_within v password secret_len associated_len max_kib max_ops told =
    ltb-false max_ops (work (parameters_of_value v password))
    (last_of_none (nat_le (length password) 0xFFFFFFFF)
    (nat_lt 0xFFFFFFFF secret_len || nat_lt 0xFFFFFFFF associated_len)
    (nat_lt max_kib (block_count (parameters_of_value v password)))
    (nat_lt max_ops (work (parameters_of_value v password))) told)

pub returns-clause-verdict : goal.returns-clause-verdict
returns-clause-verdict g c =
    let value : Value = encoded_value_of_hash_view c.hash_view-view.result in
    let valid : IsEncodableValue value = subst IsEncodableValue (sym c.hash_view-view.ensures.value) c.in-Ok.ensures.value in
    let written : IsEncodedTextOf value c.args.text.now =
    subst (λ (v : Value). IsEncodedTextOf v c.args.text.now) (sym c.hash_view-view.ensures.value) c.in-Ok.ensures.found in
    let first = c.verify_view.ensures.verdict.first_fault in
    record {
      right = λ told. record {
        value = value;
        valid = valid;
        written = written;
        admitted = c.verify_view.ensures.verdict.admitted told;
        same = c.verify_view.ensures.verdict.right told;
      };
      wrong = λ told. record {
        value = value;
        valid = valid;
        written = written;
        admitted = c.verify_view.ensures.verdict.admitted_if_wrong told;
        other = c.verify_view.ensures.verdict.wrong told;
      };
      not_in_grammar = λ told. absurd (omega (arith, told));
      outside = λ told. absurd (omega (arith, told));
      password_len = λ told. record { value = value; valid = valid; written = written; refused = first.password_len told };
      input_len = λ told. record { value = value; valid = valid; written = written; refused = first.input_len told };
      memory_limit = λ told. record { value = value; valid = valid; written = written; refused = first.memory_limit told };
      work_limit = λ told. record { value = value; valid = valid; written = written; refused = first.work_limit told };
      memory = λ told. inr (record { value = value; valid = valid; written = written; refused = first.memory told });
    }

pub returns-clause-asked : goal.returns-clause-asked
returns-clause-asked g c =
    let value : Value = encoded_value_of_hash_view c.hash_view-view.result in
    let valid : IsEncodableValue value = subst IsEncodableValue (sym c.hash_view-view.ensures.value) c.in-Ok.ensures.value in
    let written : IsEncodedTextOf value c.args.text.now =
    subst (λ (v : Value). IsEncodedTextOf v c.args.text.now) (sym c.hash_view-view.ensures.value) c.in-Ok.ensures.found in
    let first = c.verify_view.ensures.verdict.first_fault in
    record {
      asked = λ told. (
        value,
        valid,
        written,
        c.verify_view.ensures.asked.asked told
            ∙ ap (λ source. g.S.HashMemory.after_matrix source (parameters_of_value value c.args.keyed.now.password.now)
            c.args.limits.now.max_kib c.args.limits.now.max_ops true) c.in-Ok.ensures.asked,
      );
      asked_if_wrong = λ told. (
        value,
        valid,
        written,
        c.verify_view.ensures.asked.asked_if_late told
            ∙ ap (λ source. g.S.HashMemory.after_matrix source (parameters_of_value value c.args.keyed.now.password.now)
            c.args.limits.now.max_kib c.args.limits.now.max_ops true) c.in-Ok.ensures.asked,
      );
      unasked = λ some wrong memory. c.verify_view.ensures.asked.unasked some memory wrong ∙ c.in-Ok.ensures.asked;
      refused = λ told. inr (
        record { value = value; valid = valid; written = written; refused = first.memory told },
        c.verify_view.ensures.asked.refused told
            ∙ ap (λ source. g.S.HashMemory.after_matrix source (parameters_of_value value c.args.keyed.now.password.now)
            c.args.limits.now.max_kib c.args.limits.now.max_ops false) c.in-Ok.ensures.asked,
      );
    }

pub returns-clause-works : goal.returns-clause-works
returns-clause-works g c =
    let value : Value = encoded_value_of_hash_view c.hash_view-view.result in
    let valid : IsEncodableValue value = subst IsEncodableValue (sym c.hash_view-view.ensures.value) c.in-Ok.ensures.value in
    let written : IsEncodedTextOf value c.args.text.now =
    subst (λ (v : Value). IsEncodedTextOf v c.args.text.now) (sym c.hash_view-view.ensures.value) c.in-Ok.ensures.found in
    let within : keyed_verify_fault value c.args.keyed.now.password.now (length c.args.keyed.now.secret.now) (length c.args.keyed.now.associated.now)
    c.args.limits.now.max_kib c.args.limits.now.max_ops ≡ None → work (parameters_of_value value c.args.keyed.now.password.now) ≤ c.args.limits.now.max_ops =
    work_within value c.args.keyed.now.password.now (length c.args.keyed.now.secret.now) (length c.args.keyed.now.associated.now)
    c.args.limits.now.max_kib c.args.limits.now.max_ops in
    record {
      no_work = λ some wrong. c.verify_view.ensures.works.no_work some wrong;
      count = λ told. record {
        value = value;
        valid = valid;
        written = written;
        counted = c.verify_view.ensures.works.count told;
        admitted = within (c.verify_view.ensures.verdict.admitted told);
      };
      count_if_wrong = λ told. record {
        value = value;
        valid = valid;
        written = written;
        counted = c.verify_view.ensures.works.count_if_late told;
        admitted = within (c.verify_view.ensures.verdict.admitted_if_wrong told);
      };
    }
