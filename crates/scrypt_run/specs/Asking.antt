-- What a run asks of its source of memory: at most one request, of a size that follows from its request or its input.
-- `ask granted` is what such a request leaves of the source, granted or refused; `after_workspace` and `after_line`
-- are what a request for the memory of a derivation and one for the line of costs leave of it.
use Rattle.std.specs.Prelude.{◌≡◌, ◌⊎◌, Bool, true, false, ℕ, List, IsTrue}
use Rattle.romix.specs.Allowance.{costs_with_allowed_keep}
use Rattle.romix.specs.Costs.{Parameters}
use Rattle.romix.specs.SparseCosts.{CostsAndKeep}
use Rattle.encfile.specs.Header.{costs_of}
use Rattle.scrypt_request.specs.Refusal.{is_out_of_memory, may_follow_work}
use Rattle.scrypt_request.specs.Request.{Request, Task, allowance_of, decrypt, encrypt, inspect}
use Rattle.scrypt_request.specs.declared.refusal.ScryptRefusal.{ScryptRefusal}

-- ---- one request. `ask granted` is what it leaves of the source, granted or refused

-- what a run that ended with this refusal asked for: the refusal is OutOfMemory where its request was refused, and
-- only there; another comes before the request, or, where it may follow the derivation, after one that was granted
abbrev pub RequestsMemoryBeforeRefusal : {Source : Type 0} → (Bool → Source) → ScryptRefusal → Source → Source → Type 0
RequestsMemoryBeforeRefusal ask r before after =
    ((is_out_of_memory r ≡ true) × (after ≡ ask false))
    ⊎ ((is_out_of_memory r ≡ false) × (after ≡ before))
    ⊎ ((may_follow_work r ≡ true) × (after ≡ ask true))

-- ---- a request by the costs of a header, which are those of the input where the host tells its bytes

-- a request by the costs of a header was granted; where the host tells its bytes, they are the costs of the input
pub record WasGranted {Source : Type 0} (tells : Bool) (input : List ℕ) (ask : Parameters → Bool → Source) (after : Source) : Type 0 where
  pub costs : Parameters
  pub of_header : IsTrue tells → costs ≡ costs_of input
  pub asked : after ≡ ask costs true

-- what a run that ended with this refusal asked for, by the costs of a header; where the host tells its bytes, they
-- are the costs of the input
pub record RequestsHeaderMemoryBeforeRefusal {Source : Type 0} (tells : Bool) (input : List ℕ) (ask : Parameters → Bool → Source) (r : ScryptRefusal) (before after : Source) : Type 0 where
  pub costs : Parameters
  pub of_header : IsTrue tells → costs ≡ costs_of input
  pub asked : RequestsMemoryBeforeRefusal (ask costs) r before after

-- ---- a run. `after_workspace` and `after_line` are what a request for the memory of a derivation and for the line of
-- costs leave of the source

-- what `enc` and `dec` ask for: the memory of one derivation of these costs with the S of the task
abbrev pub source_after_workspace_request : {Source : Type 0} → (Source → CostsAndKeep → Bool → Source) → Source → Task → Parameters → Bool → Source
source_after_workspace_request after_workspace before task costs granted = after_workspace before (costs_with_allowed_keep (allowance_of task) costs) granted

-- what a run that ended with status 0 asked for, and was granted
abbrev pub RequestGranted : {Source : Type 0} → (Source → CostsAndKeep → Bool → Source) → (Source → Parameters → Bool → Source)
    → Bool → List ℕ → Request → Source → Source → Type 0
RequestGranted after_workspace after_line tells input (encrypt asked) before after =
    after ≡ source_after_workspace_request after_workspace before asked.task asked.costs true
RequestGranted after_workspace after_line tells input (decrypt task) before after =
    WasGranted tells input (source_after_workspace_request after_workspace before task) after
RequestGranted after_workspace after_line tells input (inspect infile) before after =
    WasGranted tells input (after_line before) after

-- what a run that ended with this refusal asked for
abbrev pub RequestsRunMemoryBeforeRefusal : {Source : Type 0} → (Source → CostsAndKeep → Bool → Source) → (Source → Parameters → Bool → Source)
    → Bool → List ℕ → Request → ScryptRefusal → Source → Source → Type 0
RequestsRunMemoryBeforeRefusal after_workspace after_line tells input (encrypt asked) r before after =
    RequestsMemoryBeforeRefusal (source_after_workspace_request after_workspace before asked.task asked.costs) r before after
RequestsRunMemoryBeforeRefusal after_workspace after_line tells input (decrypt task) r before after =
    RequestsHeaderMemoryBeforeRefusal tells input (source_after_workspace_request after_workspace before task) r before after
RequestsRunMemoryBeforeRefusal after_workspace after_line tells input (inspect infile) r before after =
    RequestsHeaderMemoryBeforeRefusal tells input (after_line before) r before after
