-- What each call of a host in memory does that takes memory: with this result, and the host before and after it.
use Rattle.std.specs.Prelude.{◌≡◌, ℕ, List, Option, Some, Result, IfOk, OnOk, OnErr, bytes_eq, if◌then◌else◌, take}
use Rattle.host.specs.CallsGrantedByHost.{with_input_opened, with_output_asked, with_output_opened}
use Rattle.host.specs.Entries.{Entry, lookup}
use Rattle.host.specs.Faults.{CountsFailure, CountsNoFailure, Faults}
use Rattle.host.specs.HostState.{KeepsOnErr, Text, after_ask_output, after_open_input, after_open_output, after_push, after_say}
use Rattle.memory_host.specs.Memory.{Memory, memory_host_failure_counts, memory_host_grants, memory_host_state}

-- where it fails it counts one failure more of its own kind, and where it succeeds none
pub record CountsOwnFailure {A E : Type 0} (failed : Faults → Faults) (result : Result A E) (before after : Memory) : Type 0 where
  pub counts : CountsNoFailure result (memory_host_failure_counts before) (memory_host_failure_counts after)
  pub counted : CountsFailure failed result (memory_host_failure_counts before) (memory_host_failure_counts after)

-- the input is opened under this name, or nothing that contracts see of the host has changed
pub record OpensInput {A E : Type 0} (name : Option Text) (result : Result A E) (before after : Memory) : Type 0 where
  pub kept : KeepsOnErr result (memory_host_state before) (memory_host_state after)
  pub opened : OnOk result (memory_host_state after ≡ after_open_input name (memory_host_state before))
  pub granted : OnOk result (memory_host_grants after ≡ with_input_opened (memory_host_grants before))
  pub granted_as_before : KeepsOnErr result (memory_host_grants before) (memory_host_grants after)

-- an output is asked for under this name, and is opened or not
pub record OpensOutput {A E : Type 0} (name : Option Text) (result : Result A E) (before after : Memory) : Type 0 where
  pub asks : OnErr result (memory_host_state after ≡ after_ask_output name (memory_host_state before))
  pub opened : OnOk result (memory_host_state after ≡ after_open_output name (memory_host_state before))
  pub granted : OnOk result (memory_host_grants after ≡ with_output_opened (memory_host_grants before))
  pub granted_no_other : OnErr result (memory_host_grants after ≡ with_output_asked (memory_host_grants before))

-- a beginning of these bytes stands after the output, or nothing is written
pub record Pushes {E : Type 0} (bytes : List ℕ) (result : Result ℕ E) (before after : Memory) : Type 0 where
  pub put : IfOk result (λ n. memory_host_state after ≡ after_push (take n bytes) (memory_host_state before))
  pub kept : KeepsOnErr result (memory_host_state before) (memory_host_state after)
  pub granted : memory_host_grants after ≡ memory_host_grants before

-- this line is said, or nothing that contracts see of the host has changed
pub record SaysLine {A E : Type 0} (line : Text) (result : Result A E) (before after : Memory) : Type 0 where
  pub said : OnOk result (memory_host_state after ≡ after_say line (memory_host_state before))
  pub kept : KeepsOnErr result (memory_host_state before) (memory_host_state after)
  pub granted : memory_host_grants after ≡ memory_host_grants before

-- under this name these bytes are found, and under any other what was found before
abbrev pub FindsLatest : Text → List ℕ → List Entry → List Entry → Type 0
FindsLatest name bytes before after = (asked : Text)
    → lookup after asked ≡ (if bytes_eq name asked then Some bytes else lookup before asked)
