-- What words that are refused come to.
use Rattle.std.proofs.Common.{◌≡◌, ◌∙◌, ℕ, Bool, true, false, List, Option, Result, Ok, Err, IsOk, is_ok, inl, inr, ap, refl, subst, sym}
use Rattle.host.specs.HostState.{HostState, Text}
use Rattle.argon2_command.specs.Output.{output_for}
use Rattle.argon2_command.specs.Run.{IsRefused, IsReportedForSomeInput, SucceedsForSomeInput, after_password_asked}
use Rattle.argon2_words.specs.Request.{Request, argon2_request}
use Rattle.argon2_words.specs.declared.refusal.Argon2Refusal.{Argon2Refusal}

abbrev IsWrong : Bool → Type 0
IsWrong true = ⊥
IsWrong false = Unit {0}

abbrev refusal_or : Argon2Refusal → Result (List ℕ) Argon2Refusal → Argon2Refusal
refusal_or other (Ok line) = other
refusal_or other (Err r) = r

-- what words ask for, where some input gives an output
taken : (words : List Text) (stdin : Option (List ℕ)) (asked : Result Request Argon2Refusal) → argon2_request words ≡ asked
    → IsOk (output_for words stdin) → IsOk asked
taken words stdin (Ok q) is some = refl
taken words stdin (Err r) is some = rw is at some

pub words_taken : (words : List Text) → SucceedsForSomeInput words → IsOk (argon2_request words)
words_taken words some = taken words some.0 (argon2_request words) refl some.1

module _ (words : List Text) (due : Argon2Refusal) (refused : argon2_request words ≡ Err due) where
  no_output : {P : Type 0} (stdin : Option (List ℕ)) → IsOk (output_for words stdin) → P
  no_output stdin some = absurd (let wrong : ⊥ = subst IsWrong (taken words stdin (Err due) refused some) tt in wrong)

  -- words that are refused come to no output
  pub not_refused : SucceedsForSomeInput words → ⊥
  not_refused some = no_output some.0 some.1

  -- what is reported of words that are refused is their refusal
  pub due_is_told : (told : Argon2Refusal) → IsReportedForSomeInput words told → told ≡ due
  due_is_told told (stdin, inl is) = sym (ap (refusal_or due) (rw refused at is))
  due_is_told told (stdin, inr (late, some)) = no_output stdin some

  kept : (r : Argon2Refusal) (before after : HostState) → after_password_asked words before ≡ before → IsRefused r words before after → after ≡ before
  kept r before after unasked (inl early) = early.2 ∙ unasked
  kept r before after unasked (inr (inl password)) = password.2 ∙ unasked
  kept r before after unasked (inr (inr (inl memory))) = memory.2 ∙ unasked
  kept r before after unasked (inr (inr (inr output))) = no_output before.stdin (ap is_ok output.due)

  -- and nothing is asked of the host
  pub host_kept : (r : Argon2Refusal) (before after : HostState) → IsRefused r words before after → after ≡ before
  host_kept r before after is = kept r before after (rw refused refl) is
