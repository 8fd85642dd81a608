-- What follows from how a run ended, before the line of a refusal is said.
use Rattle.std.proofs.Common.{◌≡◌, ◌∙◌, ◌⊎◌, ℕ, Bool, List, Result, Ok, Err, IsOk, IsTrue, is_ok, inl, inr, ap, subst, sym}
use Rattle.host.specs.HostState.{HostState, Text}
use Rattle.scrypt_request.specs.Refusal.{IsOfNoFailedCall}
use Rattle.scrypt_request.specs.declared.refusal.ScryptRefusal.{ScryptRefusal}
use Rattle.scrypt_request.specs.declared.refusal.ScryptRefusal.TheVariants as refusal
use Rattle.scrypt_command.specs.Endings.{Ends, EndsAtWords, RunsRequest}
use Rattle.scrypt_command.specs.Run.{IsDueOrOutOfMemory, IsRefused, RefusesCommandLine, Succeeds}
use Rattle.scrypt_words.specs.Request.{scrypt_request}

abbrev IsDone : {A : Type 0} → Result A ScryptRefusal → Type 0
IsDone (Ok a) = Unit {0}
IsDone (Err r) = ⊥

abbrev refusal_or : {A : Type 0} → ScryptRefusal → Result A ScryptRefusal → ScryptRefusal
refusal_or other (Ok a) = other
refusal_or other (Err r) = r

-- ---- a run that did all

module _ {A : Type 0} {tells : Bool} {words : List Text} {a : A} {before after : HostState} {m n : ℕ} where
  runs_all : Ends tells words (Ok a) before after m n → RunsRequest tells words (Ok a) before after m n
  runs_all (inl stops) = absurd (let wrong : ⊥ = subst IsDone stops.is tt in wrong)
  runs_all (inr runs) = runs

  -- words that are refused do not come to it
  pub not_refused : (due : ScryptRefusal) → scrypt_request words ≡ Err due → Ends tells words (Ok a) before after m n → ⊥
  not_refused due refused ends = subst IsDone (sym (runs_all ends).asked ∙ refused) tt

  pub words_taken : Ends tells words (Ok a) before after m n → IsOk (scrypt_request words)
  words_taken ends = ap is_ok (runs_all ends).asked

  pub succeeds : Ends tells words (Ok a) before after m n → IsTrue tells → Succeeds words before after
  succeeds ends t = let runs = runs_all ends in record { request = runs.request; asked = runs.asked; succeeds = runs.succeeds t }

-- ---- a refusal

module _ {A : Type 0} {words : List Text} {r : ScryptRefusal} {before after : HostState} {m n : ℕ} where
  told : EndsAtWords {A = A} words (Err r) before after m n → RefusesCommandLine r words before after
  told stops = subst (λ q. RefusesCommandLine q words before after) (sym (ap (refusal_or r) stops.is)) stops.refused

  pub raises_no_count : EndsAtWords {A = A} words (Err r) before after m n → IsOfNoFailedCall r
  raises_no_count stops = subst IsOfNoFailedCall (sym (ap (refusal_or r) stops.is)) stops.counts

  pub is_refused : {tells : Bool} → Ends {A = A} tells words (Err r) before after m n → IsTrue tells → IsRefused r words before after
  is_refused (inl stops) t = inl (told stops)
  is_refused (inr runs) t = inr (record { request = runs.request; asked = runs.asked; refused = runs.refused t })

  -- words that are refused come to no run
  pub stops_at_words : {tells : Bool} (due : ScryptRefusal) → scrypt_request words ≡ Err due → Ends {A = A} tells words (Err r) before after m n
      → EndsAtWords {A = A} words (Err r) before after m n
  stops_at_words due refused (inl stops) = stops
  stops_at_words due refused (inr runs) = absurd (let wrong : ⊥ = subst IsDone (sym runs.asked ∙ refused) tt in wrong)

-- the refusal that is told of them
is_due : (words : List Text) (due r : ScryptRefusal) → scrypt_request words ≡ Err due → (scrypt_request words ≡ Err r) ⊎ (r ≡ refusal.OutOfMemory)
    → IsDueOrOutOfMemory r due
is_due words due r refused (inl is) = inl (ap (refusal_or due) (sym is ∙ refused))
is_due words due r refused (inr lacks) = inr lacks

pub fits : {A : Type 0} {words : List Text} {r : ScryptRefusal} {before after : HostState} {m n : ℕ} (due : ScryptRefusal) → scrypt_request words ≡ Err due
    → EndsAtWords {A = A} words (Err r) before after m n → IsDueOrOutOfMemory r due
fits {words = words} {r = r} due refused stops = is_due words due r refused (told stops).0
