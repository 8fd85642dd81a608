-- The ends of a run, by what its steps told.
use Rattle.std.proofs.Common.{◌≡◌, ℕ, Bool, true, false, List, Result, Ok, Err, MatchResult, inl, inr, refl, sym, ◌∙◌, subst}
use Rattle.argon.specs.Argon2.{Parameters}
use Rattle.host.specs.HostState.{HostState, Text}
use Rattle.argon2_verify.specs.Run.{Answers, Differs, IsRefused, Request, Verifies, verify_request}
use Rattle.argon2_verify.specs.declared.refusal.VerifyRefusal.{VerifyRefusal}

-- a fact of a result, by what it is
pub by_result : {A E : Type 0} {P : A → Type 0} {Q : E → Type 0} (r : Result A E) → ((a : A) → r ≡ Ok a → P a) → ((e : E) → r ≡ Err e → Q e)
    → MatchResult r P Q
by_result (Ok a) f g = f a refl
by_result (Err e) f g = g e refl

abbrev pub IsWrong : Bool → Type 0
IsWrong true = ⊥
IsWrong false = Unit {0}

abbrev IsDone : {A : Type 0} → Result A VerifyRefusal → Type 0
IsDone (Ok a) = Unit {0}
IsDone (Err r) = ⊥

-- an answer, by what it says
module _ {Source : Type 0} {decoded : Source → List ℕ → Bool → Source} {matrix : Source → Parameters → ℕ → ℕ → Bool → Source}
    {tells : Bool} {words : List Text} {same : Bool} {s u : HostState} {m n : ℕ} {before after : Source}
    (told : Answers decoded matrix tells words same s u m n before after) where
  pub verifies : same ≡ true → Verifies tells words s u
  verifies is = record { inputs = told.inputs; same = told.answer.0 is }

  pub differs : same ≡ false → Differs tells words s u
  differs is = record { inputs = told.inputs; other = λ right. let wrong : ⊥ = subst IsWrong (sym is ∙ told.answer.1 right) tt in wrong }

  -- words that are refused do not come to it
  pub not_refused : (due : VerifyRefusal) → verify_request words ≡ Err due → ⊥
  not_refused due refused = subst IsDone (sym told.inputs.of_words ∙ refused) tt

-- words that are refused leave the host as it was
module _ (words : List Text) (due : VerifyRefusal) (refused : verify_request words ≡ Err due) where
  no_request : {P : Type 0} (q : Request) → verify_request words ≡ Ok q → P
  no_request q of_words = absurd (let wrong : ⊥ = subst IsDone (sym of_words ∙ refused) tt in wrong)

  pub host_kept : (r : VerifyRefusal) (before after : HostState) → IsRefused r words before after → after ≡ before
  host_kept r before after (inl (is, same)) = same
  host_kept r before after (inr (inl file)) = no_request file.request file.of_words
  host_kept r before after (inr (inr (inl limits))) = no_request limits.request limits.of_words
  host_kept r before after (inr (inr (inr password))) = no_request password.request password.of_words
