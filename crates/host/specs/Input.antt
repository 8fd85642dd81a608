-- What is pulled from the input of a host by several calls. `seen`, `faults` and `grants` are what contracts see of the
-- host.
use Rattle.std.specs.Prelude.{◌≡◌, ◌<◌, ◌≤◌, ℕ, List, Result, length, take, IfOk, OnErr, OnOk}
use Rattle.host.specs.CallsGrantedByHost.{CallsGrantedByHost, GrantsAllButPullsAsBefore}
use Rattle.host.specs.Faults.{CountsFailure, CountsNoFailure, Faults, with_input_failure_counted}
use Rattle.host.specs.HostState.{FitsWithin, HostState, after_pull}

-- a buffer is filled with the next bytes of the input, with fewer than it has only where these were all; after a fault
-- fewer were pulled, and are gone
pub record FillsFromInput {Host E : Type 0} (seen : Host → HostState) (result : Result ℕ E) (room buf : List ℕ) (before after : Host) : Type 0 where
  pub within : FitsWithin result (seen before).input
  pub bytes : IfOk result (λ n. take n buf ≡ take n (seen before).input)
  pub whole : IfOk result (λ n. n < length room → length (seen before).input ≤ n)
  pub taken : IfOk result (λ n. seen after ≡ after_pull n (seen before))
  pub cut_off : OnErr result ((n : ℕ) × (n < length room) × (n ≤ length (seen before).input) × (seen after ≡ after_pull n (seen before)))

-- pulls for this room count a fault as one of the input, and no other; after them all is granted but pulls, and these,
-- too, where the room was filled
pub record CountsPulls {Host E : Type 0} (faults : Host → Faults) (grants : Host → CallsGrantedByHost) (room : List ℕ) (result : Result ℕ E) (before after : Host) : Type 0 where
  pub counts : CountsNoFailure result (faults before) (faults after)
  pub counted : CountsFailure with_input_failure_counted result (faults before) (faults after)
  pub granted : IfOk result (λ n. length room ≤ n → grants after ≡ grants before)
  pub granted_all_but_pulls : OnOk result (GrantsAllButPullsAsBefore (grants before) (grants after))
