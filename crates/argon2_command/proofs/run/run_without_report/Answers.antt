-- What argon2 answers to a standard input, by what the words and that input give.
use Rattle.std.proofs.Common.{◌≡◌, inl, inr, ℕ, List, Some, Ok, Err, rules, map, string_bytes, sym, subst, refl}
use Rattle.argon.specs.Argon2.{Parameters}
use Rattle.host.specs.HostState.{Text}
use Rattle.argon2_command.specs.Output.{admitted_parameters, output_for, output_line, password_in}
use Rattle.argon2_command.specs.Run.{EndsSoForSomeInput, IsReportedForSomeInput, SucceedsForSomeInput}
use Rattle.argon2_words.specs.Refusal.{IsMemoryOrOutputRefusal}
use Rattle.argon2_words.specs.Request.{Request, argon2_request}
use Rattle.argon2_words.specs.RequestView.{argon2_request_view}
use Rattle.argon2_words.specs.declared.refusal.Argon2Refusal.{Argon2Refusal}
use Rattle.argon2_words.specs.declared.refusal.Argon2Refusal.TheVariants.{OutOfMemory, OutputFault}
use Rattle.argon2_command.proofs.run.run_without_report.Goals as goal

parameters_told : (words : List Text) (q : Request) (password : List ℕ) (r : Argon2Refusal) → argon2_request words ≡ Ok q
    → password_in (Some password) ≡ Ok password → admitted_parameters q password ≡ Err r → IsReportedForSomeInput words r
parameters_told words q password r taken given refused = (Some password, inl (rw (taken, given, refused) refl))

answers : (words : List Text) (q : Request) (password : List ℕ) (p : Parameters) → argon2_request words ≡ Ok q
    → password_in (Some password) ≡ Ok password → admitted_parameters q password ≡ Ok p → output_for words (Some password) ≡ Ok (output_line q password p)
answers words q password p taken given admitted = rw (taken, given, admitted) refl

succeeds : (words : List Text) (q : Request) (password : List ℕ) (p : Parameters) → argon2_request words ≡ Ok q
    → password_in (Some password) ≡ Ok password → admitted_parameters q password ≡ Ok p → SucceedsForSomeInput words
succeeds words q password p taken given admitted = (Some password, rw (answers words q password p taken given admitted) refl)

-- want of memory and the output's fault may be told where some input gives an output
late_told : (words : List Text) (r : Argon2Refusal) → SucceedsForSomeInput words → IsMemoryOrOutputRefusal r → IsReportedForSomeInput words r
late_told words r h late = (h.0, inr (late, h.1))

pub returns-in_err-params-clause-some_input : goal.returns-in_err-params-clause-some_input
returns-in_err-params-clause-some_input g c =
    let words : List Text = map string_bytes c.args.words.now in
    let told : c.from_residual-in_err-params.result ≡ Err c.in_err-params.field-0.0 = search rules in
    subst (λ r. EndsSoForSomeInput words r) (sym told)
    (parameters_told words (argon2_request_view c.in_ok-request.request) c.in_ok-password.password c.in_err-params.field-0.0 (sym c.in_ok-request.ensures.request)
    c.in_ok-password.ensures.valid (sym c.in_err-params.ensures.parameters))

pub returns-in_err-line-clause-some_input : goal.returns-in_err-line-clause-some_input
returns-in_err-line-clause-some_input g c =
    let words : List Text = map string_bytes c.args.words.now in
    let told : c.from_residual-in_err-line.result ≡ Err OutOfMemory = search rules in
    let some : SucceedsForSomeInput words = succeeds words (argon2_request_view c.in_ok-request.request) c.in_ok-password.password c.in_ok-params.params (sym c.in_ok-request.ensures.request)
    c.in_ok-password.ensures.valid (sym c.in_ok-params.ensures.parameters) in
    subst (λ r. EndsSoForSomeInput words r) (sym told) (late_told words OutOfMemory some tt)

pub returns-in_default-clause-some_input : goal.returns-in_default-clause-some_input
returns-in_default-clause-some_input g c =
    let words : List Text = map string_bytes c.args.words.now in
    let some : SucceedsForSomeInput words = succeeds words (argon2_request_view c.in_ok-request.request) c.in_ok-password.password c.in_ok-params.params (sym c.in_ok-request.ensures.request)
    c.in_ok-password.ensures.valid (sym c.in_ok-params.ensures.parameters) in
    late_told words OutputFault some tt

pub returns-clause-some_input : goal.returns-clause-some_input
returns-clause-some_input g c =
    succeeds (map string_bytes c.args.words.now) (argon2_request_view c.in_ok-request.request) c.in_ok-password.password c.in_ok-params.params (sym c.in_ok-request.ensures.request)
    c.in_ok-password.ensures.valid (sym c.in_ok-params.ensures.parameters)
