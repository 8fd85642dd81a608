-- What a run asks of its source of memory. The parameters are those that the words and some password ask for, and the
-- words' limits admit them.
use Rattle.std.specs.Prelude.{◌≡◌, ℕ, List, Result, Ok, MatchResult}
use Rattle.argon.specs.Argon2.{Parameters}
use Rattle.host.specs.HostState.{Text}
use Rattle.argon2_command.specs.MemoryRequestEffects.{MemoryRequestEffects, OneRequestRefused, after_all_requests}
use Rattle.argon2_command.specs.Output.{admitted_parameters}
use Rattle.argon2_words.specs.Refusal.{IsBeforeMemoryAndOutput}
use Rattle.argon2_words.specs.Request.{Request, argon2_request}
use Rattle.argon2_words.specs.declared.refusal.Argon2Refusal.{Argon2Refusal}
use Rattle.argon2_words.specs.declared.refusal.Argon2Refusal.TheVariants as refusal

-- the memory of the tag, of its line and of the matrix was granted
pub record RunGranted {Source : Type 0} (ask : MemoryRequestEffects Source) (words : List Text) (before after : Source) : Type 0 where
  pub request : Request
  pub password : List ℕ
  pub parameters : Parameters
  pub of_words : argon2_request words ≡ Ok request
  pub admitted : admitted_parameters request password ≡ Ok parameters
  pub asked : after ≡ after_all_requests ask request parameters before

-- one of the requests for the tag, its line and the matrix was refused
pub record RunMemoryRefused {Source : Type 0} (ask : MemoryRequestEffects Source) (words : List Text) (before after : Source) : Type 0 where
  pub request : Request
  pub password : List ℕ
  pub parameters : Parameters
  pub of_words : argon2_request words ≡ Ok request
  pub admitted : admitted_parameters request password ≡ Ok parameters
  pub asked : OneRequestRefused ask request parameters before after

-- the source before and after a run that ended with this refusal: that of memory comes where one of the requests was
-- refused, that of the output once all were granted, and every other before any is made
pub record RequestsMemoryBeforeRefusal {Source : Type 0} (ask : MemoryRequestEffects Source) (words : List Text) (r : Argon2Refusal)
    (before after : Source) : Type 0 where
  pub unasked : IsBeforeMemoryAndOutput r → after ≡ before
  pub refused : r ≡ refusal.OutOfMemory → RunMemoryRefused ask words before after
  pub granted : r ≡ refusal.OutputFault → RunGranted ask words before after

-- a run with this result, on these words, and the source before and after it: one that does all was granted each request
abbrev pub RequestsRunMemory : {Source A : Type 0} → MemoryRequestEffects Source → List Text → Result A Argon2Refusal → Source → Source → Type 0
RequestsRunMemory ask words result before after =
    MatchResult result (λ _. RunGranted ask words before after) (λ r. RequestsMemoryBeforeRefusal ask words r before after)
