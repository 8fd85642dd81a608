-- What each call of a run does: what its host becomes, and that the run has not gone back; and how it begins and ends.
use Rattle.std.specs.Prelude.{◌≡◌, ◌<◌, Bool, true, false, ℕ, List, [], Option, None, Result, length, take, IfOk, OnErr, OnOk, IsTrue}
use Rattle.host.specs.CallsGrantedByHost.{CallsGrantedByHost, GrantsAllButPullsAsBefore, nothing_asked, with_input_opened, with_output_asked, with_output_opened, with_salt_asked, with_secret_asked}
use Rattle.host.specs.Faults.{Faults, no_faults, with_output_failure_counted}
use Rattle.host.specs.HostState.{FitsWithin, HostState, KeepsOnErr, SecretSource, Text, after_ask_output, after_ask_secret, after_open_input, after_open_output, after_pull, after_push, after_salt, after_say}
use Rattle.host.specs.Secret.{IsBeginning, secret_bytes_in_host}
use Rattle.tools.specs.Failures.{AreFaultsOfHost, read_failure_count}
use Rattle.tools.specs.RunState.{EndsWithLine, GoesOn, Leaves, RunState, host_over, host_seen}
use Rattle.tools.specs.SystemState.{Files, IsLineAskedUnlessReading, IsOutputSynced, IsOutputUnsynced, MayAskForLine, SystemState, after_line}
use Rattle.tools.specs.declared.system.Reading.{Reading}

-- a call that is not to say a line: it leaves whether that was tried, and the run goes on
pub record GoesOnWithoutLine (tells : Bool) (before after : RunState) : Type 0 where
  pub told : after.told ≡ before.told
  pub goes_on : IsTrue tells → GoesOn before after

-- the input, which was not opened, is opened under this name before an output is asked for, or stays unopened
pub record OpensInput {A E : Type 0} (tells : Bool) (name : Option Text) (result : Result A E) (before after : RunState) : Type 0 where
  pub unopened : IsTrue tells → before.state.input.opened ≡ None
  pub before_output : IsTrue tells → OnOk result (before.state.output_asked ≡ None)
  pub kept : IsTrue tells → KeepsOnErr result (host_seen before) (host_seen after)
  pub opened : IsTrue tells → OnOk result (host_seen after ≡ after_open_input name (host_seen before))
  pub granted : OnOk result (after.grants ≡ with_input_opened before.grants)
  pub granted_as_before : KeepsOnErr result before.grants after.grants
  pub on : GoesOnWithoutLine tells before after

-- an output is asked for under this name, the first one, and is opened or not
pub record OpensOutput {A E : Type 0} (tells : Bool) (name : Option Text) (result : Result A E) (before after : RunState) : Type 0 where
  pub before_output : IsTrue tells → before.state.output_asked ≡ None
  pub asks : IsTrue tells → OnErr result (host_seen after ≡ after_ask_output name (host_seen before))
  pub opened : IsTrue tells → OnOk result (host_seen after ≡ after_open_output name (host_seen before))
  pub granted : OnOk result (after.grants ≡ with_output_opened before.grants)
  pub granted_no_other : OnErr result (after.grants ≡ with_output_asked before.grants)
  pub on : GoesOnWithoutLine tells before after

-- the next bytes of the input are put into a buffer, none only at its end or where there is no room; or none are taken
pub record Pulls {E : Type 0} (tells : Bool) (room buf : List ℕ) (result : Result ℕ E) (before after : RunState) : Type 0 where
  pub within : IsTrue tells → FitsWithin result before.state.input.left
  pub bytes : IsTrue tells → IfOk result (λ n. take n buf ≡ take n before.state.input.left)
  pub progress : IsTrue tells → IfOk result (λ n. 0 < length room → n ≡ 0 → before.state.input.left ≡ [])
  pub taken : IsTrue tells → IfOk result (λ n. host_seen after ≡ after_pull n (host_seen before))
  pub kept : IsTrue tells → KeepsOnErr result (host_seen before) (host_seen after)
  pub granted : IfOk result (λ n. 0 < n → after.grants ≡ before.grants)
  pub granted_all_but_pulls : OnOk result (GrantsAllButPullsAsBefore before.grants after.grants)
  pub on : GoesOnWithoutLine tells before after

-- a beginning of these bytes stands after the output, or nothing is written
pub record Pushes {E : Type 0} (tells : Bool) (bytes : List ℕ) (result : Result ℕ E) (before after : RunState) : Type 0 where
  pub put : IsTrue tells → IfOk result (λ n. host_seen after ≡ after_push (take n bytes) (host_seen before))
  pub kept : IsTrue tells → KeepsOnErr result (host_seen before) (host_seen after)
  pub granted : after.grants ≡ before.grants
  pub on : GoesOnWithoutLine tells before after

-- this secret source is asked, whatever comes of it; a buffer gets its first bytes, as many as there are and as fit
pub record AsksSecret {E : Type 0} (tells : Bool) (source : SecretSource) (result : Result ℕ E) (buf : List ℕ) (before after : RunState) : Type 0 where
  pub asks : IsTrue tells → host_seen after ≡ after_ask_secret source (host_seen before)
  pub bytes : IsTrue tells → IfOk result (λ n. IsBeginning (secret_bytes_in_host source (host_seen before)) n buf)
  pub granted : after.grants ≡ with_secret_asked before.grants
  pub on : GoesOnWithoutLine tells before after

-- a salt is asked for, whatever comes of it; where it is given, it is that of the host
pub record AsksSalt {A E : Type 0} (tells : Bool) (result : Result A E) (salt : List ℕ) (before after : RunState) : Type 0 where
  pub salts : IsTrue tells → host_seen after ≡ after_salt (host_seen before)
  pub bytes : IsTrue tells → OnOk result (salt ≡ (host_seen before).salt)
  pub granted : after.grants ≡ with_salt_asked before.grants
  pub on : GoesOnWithoutLine tells before after

-- this line is said, or may have been asked for; either way it was tried, and nothing else has changed
pub record SaysLine {A E : Type 0} (tells : Bool) (line : Text) (result : Result A E) (before after : RunState) : Type 0 where
  pub said : IsTrue tells → OnOk result (host_seen after ≡ after_say line (host_seen before))
  pub kept : IsTrue tells → KeepsOnErr result (host_seen before) (host_seen after)
  pub said_by_system : IsTrue tells → OnOk result (after.state ≡ after_line line before.state)
  pub kept_system : IsTrue tells → OnErr result (MayAskForLine before.state after.state)
  pub same_files : IsTrue tells → after.system_files ≡ before.system_files
  pub granted : after.grants ≡ before.grants
  pub told : after.told ≡ true
  pub goes_on : IsTrue tells → GoesOn before after

-- ---- calls that fail, and how often calls of the system have failed before and after them

-- before an output is asked for such a call is a fault only where this stream could not be opened or read
abbrev pub FailsEarlyByRead : {A E : Type 0} → Reading → Result A E → RunState → RunState → Type 0
FailsEarlyByRead r result before after =
    OnErr result (before.state.output_asked ≡ None → read_failure_count r before.failures < read_failure_count r after.failures)

-- over an output in use that was not asked to be brought to the disk, it is one only where a call for the output failed
abbrev pub FailsInUseByOutput : {A E : Type 0} → Result A E → RunState → RunState → Type 0
FailsInUseByOutput result before after = before.grants.writable ≡ true → before.state.sync_asked ≡ false
    → OnErr result (before.failures.output < after.failures.output)

-- ---- the begin and the end of a run

-- a host over a system of which nothing was used: nothing was asked of it, and nothing has failed
pub record IsNewHost (w : SystemState) (host : HostState) (faults : Faults) (grants : CallsGrantedByHost) : Type 0 where
  pub counts : faults ≡ no_faults
  pub seen : host ≡ host_over w
  pub granted : grants ≡ nothing_asked

-- what is seen of a system is what was seen of this run's
pub record IsSystemOf {System : Type 0} (state : System → SystemState) (failures : System → Faults) (files : System → Files) (run : RunState) (system : System) : Type 0 where
  pub same : state system ≡ run.state
  pub same_failures : failures system ≡ run.failures
  pub same_files : files system ≡ run.system_files

-- a run over a host that was seen like this, with these faults, is over: so its system is left, of which `left` was
-- seen; what it counted are these faults, and they are no more than failures of the system. Where a line could not be
-- said, the system was asked for it unless something was opened to be read
pub record EndsRun {System : Type 0} (tells : Bool) (state : System → SystemState) (failures : System → Faults) (files : System → Files) (left : SystemState) (host : HostState) (faults : Faults) (after : System) (counted : Faults) : Type 0 where
  pub counts : counted ≡ faults
  pub same : state after ≡ left
  pub leaves : IsTrue tells → Leaves (state after) host
  pub asks : IsTrue tells → 0 < counted.lines → IsLineAskedUnlessReading (state after)
  pub fails : IsTrue tells → AreFaultsOfHost counted (failures after) (state after) (files after)

-- a run over such a host is over, and its output was brought to the disk, or need not be: so the system is left, and
-- nothing more has failed
pub record EndsSynced (tells : Bool) (host : HostState) (faults : Faults) (after : SystemState) (counted : Faults) : Type 0 where
  pub counts : counted ≡ faults
  pub leaves : IsTrue tells → Leaves after host
  pub output_synced : IsTrue tells → IsOutputSynced after

-- it is over, and its output could not be brought to the disk: the output has failed once more, and this line is said
pub record EndsUnsynced (tells : Bool) (line : Text) (host : HostState) (faults : Faults) (is_writable : Bool) (after : SystemState) (counted : Faults) : Type 0 where
  pub says : EndsWithLine tells line host (with_output_failure_counted faults) after counted
  pub output_unsynced : IsTrue tells → is_writable ≡ true → IsOutputUnsynced after
