-- What is seen of a host once an output was opened and written to.
use Rattle.std.specs.Prelude.{◌≡◌, ◌<◌, Bool, ℕ, List, Option, Result, length, take, IsTrue, OnErr, OnOk}
use Rattle.host.specs.CallsGrantedByHost.{CallsGrantedByHost}
use Rattle.host.specs.Faults.{CountsFailure, CountsNoFailure, Faults, with_output_failure_counted}
use Rattle.host.specs.HostState.{HostState, KeepsOnOk, Text, after_open_output, after_push}

-- the output was opened under this name, and got these bytes
abbrev pub after_writing : Option Text → List ℕ → HostState → HostState
after_writing outfile bytes s = after_push bytes (after_open_output outfile s)

-- the output was opened under this name, and got a beginning of these bytes, not the whole
pub record IsOutputCutShort (outfile : Option Text) (bytes : List ℕ) (before after : HostState) : Type 0 where
  pub written : ℕ
  pub some_missing : written < length bytes
  pub begun : after ≡ after_writing outfile (take written bytes) before

-- all of these bytes stand after the output, or a beginning of them, not the whole, and that is one fault of the output;
-- of a host that tells no bytes, that is counted, and what is granted. `seen`, `faults` and `grants` are what contracts
-- see of the host
pub record PushesAll {Host A E : Type 0} (tells : Bool) (seen : Host → HostState) (faults : Host → Faults) (grants : Host → CallsGrantedByHost) (bytes : List ℕ) (result : Result A E) (before after : Host) : Type 0 where
  pub counts : CountsNoFailure result (faults before) (faults after)
  pub counted : CountsFailure with_output_failure_counted result (faults before) (faults after)
  pub granted : KeepsOnOk result (grants before) (grants after)
  pub put : IsTrue tells → OnOk result (seen after ≡ after_push bytes (seen before))
  pub begun : IsTrue tells → OnErr result ((n : ℕ) × (n < length bytes) × (seen after ≡ after_push (take n bytes) (seen before)))
