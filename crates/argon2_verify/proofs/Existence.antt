-- The state in which a run with an answer leaves a host that has what it needs.
use Rattle.std.proofs.Common.{◌≡◌, ◌≢◌, ◌≤◌, ◌∙◌, ℕ, true, false, List, Some, None, Ok, length, ap, refl, arith}
use Rattle.std.specs.Prelude.{nat_le}
use Rattle.std.proofs.lemmas.Bool.Decides.{nat_tests}
use Rattle.argon_text.specs.Value.{Value}
use Rattle.argon_text.specs.Verifying.{tag_of_password}
use Rattle.host.specs.HostState.{HostState, Text}
use Rattle.argon2_verify.specs.Hash.{Says, limits_refusal}
use Rattle.argon2_verify.specs.Reading.{after_password_asked, hash_line, password_in}
use Rattle.argon2_verify.specs.Request.{Request, verify_request}
use Rattle.argon2_verify.specs.Run.{Differs, Inputs, Verifies}

fitting : (password : List ℕ) → length password ≤ 4096 → password_in (Some password) ≡ Ok password
fitting password few =
    let short : nat_le 4097 (length password) ≡ false = grind (arith, nat_tests, few) in
    rw short refl

module _ (words : List Text) (request : Request) (value : Value) (password : List ℕ) (before : HostState) (taken : verify_request words ≡ Ok request)
    (apart : before.input_is_stdin ≡ false) (says : Says (hash_line before.input) value) (admitted : limits_refusal request.limits value ≡ None) (given : before.stdin ≡ Some password)
    (few : length password ≤ 4096) where
  inputs : Inputs true words before (after_password_asked request.file before)
  inputs = record {
    request = request;
    of_words = taken;
    line = hash_line before.input;
    value = value;
    says = says;
    admitted = admitted;
    password = password;
    fits = few;
    apart = λ _. apart;
    line_read = λ _. refl;
    password_read = λ _. ap password_in given ∙ fitting password few;
    left = λ _. refl;
  }

  pub verifies : tag_of_password value password ≡ value.tag → (after : HostState) × Verifies true words before after
  unfolding inputs
  verifies same = (after_password_asked request.file before, record { inputs = inputs; same = same })

  pub differs : tag_of_password value password ≢ value.tag → (after : HostState) × Differs true words before after
  unfolding inputs
  differs other = (after_password_asked request.file before, record { inputs = inputs; other = other })
