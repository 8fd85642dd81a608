-- What the steps of a run share: how they may end, and what they leave, at every refusal or where there is none.
use Rattle.std.specs.Prelude.{◌≡◌, ◌+◌, ℕ, Bool, true, false, List, Option, Result, IfErr, MatchResult, OnOk, IsTrue, IsFalse}
use Rattle.romix.specs.Costs.{Parameters, cores}
use Rattle.romix.specs.SparseCosts.{CostsAndKeep}
use Rattle.encfile.specs.EncryptedFile.{CountsWithinBound}
use Rattle.host.specs.CallsGrantedByHost.{CallsGrantedByHost}
use Rattle.host.specs.Faults.{Faults}
use Rattle.host.specs.HostState.{HostState}
use Rattle.host.specs.Secret.{source_of}
use Rattle.host.specs.declared.host.Source.{Source}
pub use Rattle.host.specs.Faults.{AreBelow}
use Rattle.scrypt_run.specs.Asking.{RequestsHeaderMemoryBeforeRefusal, RequestsMemoryBeforeRefusal, WasGranted}
use Rattle.scrypt_run.specs.Passphrase.{first_line_of_source}
use Rattle.scrypt_run.specs.Work.{DerivesOnce}
use Rattle.scrypt_request.specs.Refusal.{comes_only_after_work, is_out_of_memory, may_follow_work}
pub use Rattle.scrypt_request.specs.Refusal.{CountsFault, CountsNoEarlyWork}
use Rattle.scrypt_request.specs.declared.refusal.ScryptRefusal.{ScryptRefusal}

-- ---- which refusals a step may end with

-- the refusal may follow the derivation
abbrev pub MayFollowWork : ScryptRefusal → Type 0
MayFollowWork r = IsTrue (may_follow_work r)

-- the refusal may come before the derivation
abbrev pub MayPrecedeWork : ScryptRefusal → Type 0
MayPrecedeWork r = IsFalse (comes_only_after_work r)

-- the refusal is another than that of memory
abbrev pub IsNotOutOfMemory : ScryptRefusal → Type 0
IsNotOutOfMemory r = IsFalse (is_out_of_memory r)

-- a step before the derivation, with this result, and the counts of the host's failures before and after it: a refusal
-- raises its own count, and may come there
pub record EndsBeforeWork {A : Type 0} (result : Result A ScryptRefusal) (before after : Faults) : Type 0 where
  pub counts : CountsFault result before after
  pub early : IfErr result MayPrecedeWork

-- ---- the passphrase

-- the first line of the secret source that an argument of the code names, if the host has it
abbrev pub first_line_of_named_source : Source → HostState → Option (List ℕ)
first_line_of_named_source named s = first_line_of_source (source_of named) s

-- ---- what a host grants

-- the passphrase's source may still be asked, and a salt asked for
abbrev pub AwaitsSecretAndSalt : CallsGrantedByHost → Type 0
AwaitsSecretAndSalt granted = IsTrue granted.secret × IsTrue granted.salt

-- an output may still be opened, and the input pulled from
abbrev pub AwaitsOutput : CallsGrantedByHost → Type 0
AwaitsOutput granted = IsTrue granted.output × IsTrue granted.readable

-- a step with this result, and what the host granted before and after it: where it ends well, pulls and the opening of
-- an output are granted as before
abbrev pub KeepsFiles : {A : Type 0} → Result A ScryptRefusal → CallsGrantedByHost → CallsGrantedByHost → Type 0
KeepsFiles result before after = OnOk result ((after.readable ≡ before.readable) × (after.output ≡ before.output))

-- ---- the memory of a run. `ask granted` is what its one request leaves of the source, granted or refused

-- a step with this result, and the source before and after it: where it ends well, its request was granted
abbrev pub AsksMemoryOnce : {Source A : Type 0} → (Bool → Source) → Result A ScryptRefusal → Source → Source → Type 0
AsksMemoryOnce ask result before after =
    MatchResult result (λ _. after ≡ ask true) (λ r. RequestsMemoryBeforeRefusal ask r before after)

-- the same of a request by the costs of a header; where the host tells its bytes, they are the costs of the input
abbrev pub AsksHeaderMemoryOnce : {Source A : Type 0} → Bool → List ℕ → (Parameters → Bool → Source) → Result A ScryptRefusal
    → Source → Source → Type 0
AsksHeaderMemoryOnce tells input ask result before after =
    MatchResult result (λ _. WasGranted tells input ask after) (λ r. RequestsHeaderMemoryBeforeRefusal tells input ask r before after)

-- ---- the work of a run

-- the counter of Salsa20/8 cores went on by one derivation with these costs and this S: where the host tells its
-- bytes, of the passphrase in this line with this salt; with S = 1 by the cores of the costs; and within their bound
pub record CountsOneDerivation (tells : Bool) (line : Option (List ℕ)) (salt : List ℕ) (sparse : CostsAndKeep) (before after : ℕ)
    : Type 0 where
  pub once : IsTrue tells → DerivesOnce line salt sparse before after
  pub whole : sparse.keep ≡ 1 → after ≡ before + cores sparse.costs
  pub within : CountsWithinBound sparse before after

-- a step with this result, and the count before and after it: its work is done where it ends well, or with a refusal
-- that comes only after it; any other refusal leaves the count
pub record WorksOnce {A : Type 0} (result : Result A ScryptRefusal) (work : Type 0) (before after : ℕ) : Type 0 where
  pub done : OnOk result work
  pub worked : IfErr result (λ r. comes_only_after_work r ≡ true → work)
  pub unworked : IfErr result (λ r. comes_only_after_work r ≡ false → after ≡ before)
