use Rattle.std.proofs.Common.{◌≡◌, ◌∙◌, List, true, inl, inr, map, string_bytes, sym, refl, ap, subst, rules}
use Rattle.argon_text.specs.View.{value_of}
use Rattle.host.specs.HostState.{HostState, Text, after_ask_secret, stdin_once}
use Rattle.argon2_verify.specs.Hash.{Says}
use Rattle.argon2_verify.specs.Memory.{IsLeftWithHash, after_matrix}
use Rattle.argon2_verify.specs.Reading.{IsPasswordRefused, after_password_asked, hash_line, password_in}
use Rattle.argon2_verify.specs.Request.{verify_request_view}
use Rattle.argon2_verify.specs.Run.{EndsRefused}
use Rattle.argon2_verify.proofs.Ends.{by_result}
use Rattle.argon2_verify.proofs.run.run_without_report.Goals as goal

pub returns-in_err-request-clause-ends : goal.returns-in_err-request-clause-ends
returns-in_err-request-clause-ends g c =
    let s = g.H.Host.seen c.args.host.now in
    let words : List Text = map string_bytes c.args.words.now in
    let kept : EndsRefused g.R.DecodeMemory.after_decoded g.R.HashMemory.after_matrix g.H.Host.tells words c.in_err-request.field-0.0 s s
    c.args.ticks.now c.args.ticks.now c.args.memory.now c.args.memory.now = record {
      refused = λ _. inl (sym c.in_err-request.ensures.request, refl);
      no_work = refl;
      memory = record {
        line = hash_line s.input;
        line_read = λ _. refl;
        left = inl (inl (c.in_err-request.ensures.early, refl));
      };
    } in
    search (rules, kept)

pub returns-in_err-hash-clause-ends : goal.returns-in_err-hash-clause-ends
returns-in_err-hash-clause-ends g c =
    let words : List Text = map string_bytes c.args.words.now in
    let told = c.in_err-hash.ensures.refused.memory in
    let ended : EndsRefused g.R.DecodeMemory.after_decoded g.R.HashMemory.after_matrix g.H.Host.tells words c.in_err-hash.field-0.0
    (g.H.Host.seen c.args.host.now) (g.H.Host.seen c.read_hash.new.host) c.args.ticks.now c.args.ticks.now c.args.memory.now c.read_hash.new.memory = record {
      refused = λ t. inr (inl (record {
        request = verify_request_view c.in_ok-request.request;
        of_words = sym c.in_ok-request.ensures.request;
        is = c.in_err-hash.ensures.refused.refused t;
      }));
      no_work = refl;
      memory = record { line = told.line; line_read = told.is; left = inl told.left };
    } in
    search (rules, ended)

pub returns-in_err-test_limits-clause-ends : goal.returns-in_err-test_limits-clause-ends
returns-in_err-test_limits-clause-ends g c =
    let words : List Text = map string_bytes c.args.words.now in
    let request = verify_request_view c.in_ok-request.request in
    let value = value_of c.in_ok-hash.hash in
    let read = c.in_ok-hash.ensures.hash in
    let ended : EndsRefused g.R.DecodeMemory.after_decoded g.R.HashMemory.after_matrix g.H.Host.tells words c.in_err-test_limits.field-0.0
    (g.H.Host.seen c.args.host.now) (g.H.Host.seen c.read_hash.new.host) c.args.ticks.now c.args.ticks.now c.args.memory.now c.read_hash.new.memory = record {
      refused = λ t. inr (inr (inl (record {
        request = request;
        of_words = sym c.in_ok-request.ensures.request;
        value = value;
        apart = read.apart t;
        says = subst (λ line. Says line value) (read.is t) read.says;
        is = c.in_err-test_limits.ensures.limits;
        left = read.left t;
      })));
      no_work = refl;
      memory = record {
        line = read.line;
        line_read = read.is;
        left = inr (record {
          request = request;
          of_words = sym c.in_ok-request.ensures.request;
          value = value;
          says = read.says;
          left = inl (c.in_err-test_limits.ensures.early, read.memory);
        });
      };
    } in
    search (rules, ended)

pub returns-clause-ends : goal.returns-clause-ends
returns-clause-ends g c =
    let s = g.H.Host.seen c.args.host.now in
    let request = verify_request_view c.in_ok-request.request in
    let value = value_of c.in_ok-hash.hash in
    let read = c.in_ok-hash.ensures.hash in
    let tested = c.test_password.ensures in
    let left : g.H.Host.tells ≡ true → g.H.Host.seen c.test_password.new.host ≡ after_password_asked request.file s =
    λ t. tested.asks t ∙ ap (after_ask_secret stdin_once) (read.left t) in
    by_result c.test_password.result
    (λ same is. let told = rw is at tested.tests in record {
      inputs = record {
        request = request;
        of_words = sym c.in_ok-request.ensures.request;
        line = read.line;
        value = value;
        says = read.says;
        admitted = c.in_ok-test_limits.ensures.limits;
        password = told.password;
        fits = told.fits;
        apart = read.apart;
        line_read = read.is;
        password_read = λ t. ap (λ (w : HostState). password_in w.stdin) (sym (read.left t)) ∙ told.is t;
        left = left;
      };
      answer = told.answer;
      works = told.works;
      memory = told.memory ∙ ap (after_matrix g.R.HashMemory.after_matrix value told.password request.limits true) read.memory;
    })
    (λ r is. record {
      refused = λ t. inr (inr (inr (record {
        request = request;
        of_words = sym c.in_ok-request.ensures.request;
        value = value;
        apart = read.apart t;
        says = subst (λ line. Says line value) (read.is t) read.says;
        admitted = c.in_ok-test_limits.ensures.limits;
        is = subst (λ (w : HostState). IsPasswordRefused w.stdin r) (read.left t) (rw is at (tested.refused t));
        left = left t;
      })));
      no_work = rw is at tested.no_work;
      memory = record {
        line = read.line;
        line_read = read.is;
        left = inr (record {
          request = request;
          of_words = sym c.in_ok-request.ensures.request;
          value = value;
          says = read.says;
          left = subst (λ m. IsLeftWithHash g.R.HashMemory.after_matrix value request.limits r m c.test_password.new.memory) read.memory (rw is at tested.memory);
        });
      };
    })
