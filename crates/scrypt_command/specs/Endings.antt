-- How a run of scrypt ends before the line of a refusal is said, and the Salsa20/8 cores that it counts.
use Rattle.std.specs.Prelude.{◌≡◌, ◌⊎◌, ℕ, Bool, List, Result, Ok, Err, IfErr, IsTrue, OnOk}
use Rattle.host.specs.HostState.{HostState, Text}
use Rattle.scrypt_request.specs.Refusal.{CountsNoEarlyWork, IsOfNoFailedCall}
use Rattle.scrypt_request.specs.Request.{Request}
use Rattle.scrypt_request.specs.declared.refusal.ScryptRefusal.{ScryptRefusal}
use Rattle.scrypt_run.specs.Run.{ScryptRequestRefused, ScryptRequestSucceeds, most_salsa20_cores}
use Rattle.scrypt_run.specs.Work.{CountsNoWorkIfRefusedEarly, CountsRequestWork, CountsWorkWithin, EndsAfterWork}
use Rattle.scrypt_command.specs.Run.{RefusesCommandLine}
use Rattle.scrypt_words.specs.Request.{scrypt_request}

-- the run ended while its words were read, with the words' refusal or that of memory: nothing was done
pub record EndsAtWords {A : Type 0} (words : List Text) (result : Result A ScryptRefusal) (before after : HostState) (cores_before cores_after : ℕ)
    : Type 0 where
  pub refusal : ScryptRefusal
  pub is : result ≡ Err refusal
  pub refused : RefusesCommandLine refusal words before after
  pub counts : IsOfNoFailedCall refusal
  pub no_work : cores_after ≡ cores_before

-- the request that the words make was run once: so it succeeded, or was refused; it took no more cores than its limit,
-- and where it ended well, or after its derivation, exactly those of one
pub record RunsRequest {A : Type 0} (tells : Bool) (words : List Text) (result : Result A ScryptRefusal) (before after : HostState)
    (cores_before cores_after : ℕ) : Type 0 where
  pub request : Request
  pub asked : scrypt_request words ≡ Ok request
  pub succeeds : IsTrue tells → OnOk result (ScryptRequestSucceeds request before after)
  pub refused : IsTrue tells → IfErr result (λ r. ScryptRequestRefused r request before after)
  pub work_bound : CountsWorkWithin (most_salsa20_cores request) cores_before cores_after
  pub no_work : CountsNoEarlyWork result cores_before cores_after
  pub count : IsTrue tells → OnOk result (CountsRequestWork request before cores_before cores_after)
  pub worked : IsTrue tells → IfErr result (λ r. EndsAfterWork r after → CountsRequestWork request before cores_before cores_after)
  pub unworked : IsTrue tells → CountsNoWorkIfRefusedEarly result after cores_before cores_after

-- a run with this result, on these words: it ended while they were read, or their request was run
abbrev pub Ends : {A : Type 0} → Bool → List Text → Result A ScryptRefusal → HostState → HostState → ℕ → ℕ → Type 0
Ends tells words result before after cores_before cores_after =
    EndsAtWords words result before after cores_before cores_after
    ⊎ RunsRequest tells words result before after cores_before cores_after
