-- What contracts see of a system's host: the host that is made of a system and of how far a run has come.
use Rattle.std.specs.Prelude.{◌≡◌, Bool, true, false, not, ℕ, List, [], codes, drop, take, Option, None, Some, IsTrue, is_none, if◌then◌else◌}
use Rattle.host.specs.Faults.{Faults, no_faults}
pub use Rattle.host.specs.AskedSource.{asked_source}
pub use Rattle.host.specs.CallsGrantedByHost.{CallsGrantedByHost, nothing_asked}
use Rattle.host.specs.Lines.{SaysOneLine}
use Rattle.host.specs.Entries.{lookup}
use Rattle.host.specs.HostState.{SecretSource, HostState, Text, env, file, stdin_once}
pub use Rattle.host.specs.Secret.{source_of}
use Rattle.tools.specs.Failures.{AreNoFewer}
use Rattle.tools.specs.SystemState.{Files, IsLineAskedUnlessReading, IsOutputSeparate, IsOutputSynced, IsOutputUnsynced, OpensNoOther, SystemState, placeholder_files}
use Rattle.tools.specs.declared.run.InputStage.{InputStage}
use Rattle.tools.specs.declared.run.InputStage.TheVariants as input
use Rattle.tools.specs.declared.run.OutputStage.{OutputStage}
use Rattle.tools.specs.declared.run.OutputStage.TheVariants as output

-- what contracts see of the host over a system: the system, how often its calls have failed, and which files its streams
-- are; the calls that are granted; the secret source that was asked, and whether a salt was asked for, whatever came of
-- it; and whether it tried to say a line
pub record RunState : Type 0 where
  pub state : SystemState
  pub failures : Faults
  pub system_files : Files
  pub grants : CallsGrantedByHost
  pub asked : Option SecretSource
  pub salted : Bool
  pub told : Bool

-- whether the input is not opened yet
abbrev pub is_input_unopened : InputStage → Bool
is_input_unopened input.Unopened = true
is_input_unopened input.Opened = false
is_input_unopened input.Ended = false

-- whether the input is opened, and its end was not found
abbrev pub is_input_open : InputStage → Bool
is_input_open input.Unopened = false
is_input_open input.Opened = true
is_input_open input.Ended = false

-- whether no output was asked for
abbrev pub is_output_unasked : OutputStage → Bool
is_output_unasked output.Unasked = true
is_output_unasked output.Refused = false
is_output_unasked output.Opened = false
is_output_unasked output.Kept = false
is_output_unasked output.Synced = false
is_output_unasked output.Unsynced = false

-- whether the output is in use
abbrev pub is_output_opened : OutputStage → Bool
is_output_opened output.Unasked = false
is_output_opened output.Refused = false
is_output_opened output.Opened = true
is_output_opened output.Kept = true
is_output_opened output.Synced = true
is_output_opened output.Unsynced = true

-- whether the output was not asked to be brought to the disk
abbrev pub is_before_sync : OutputStage → Bool
is_before_sync output.Unasked = true
is_before_sync output.Refused = true
is_before_sync output.Opened = true
is_before_sync output.Kept = true
is_before_sync output.Synced = false
is_before_sync output.Unsynced = false

-- the calls that are granted once a run has come so far
abbrev pub granted_calls_at_stage : InputStage → OutputStage → Option SecretSource → Bool → CallsGrantedByHost
granted_calls_at_stage input_stage output_stage asked salted = record {
  input = is_input_unopened input_stage;
  readable = is_input_open input_stage;
  output = is_output_unasked output_stage;
  writable = is_output_opened output_stage;
  secret = is_none asked;
  salt = not salted;
}

-- the bytes of what stands under a name, or none where it isn't there
abbrev pub bytes_or_empty : Option (List ℕ) → List ℕ
bytes_or_empty None = []
bytes_or_empty (Some bytes) = bytes

-- the first 32 bytes of a file, or none where it isn't there
abbrev pub salt_in : Option (List ℕ) → List ℕ
salt_in None = []
salt_in (Some bytes) = take 32 bytes

-- the salt of the host over a system: its first 32 random bytes
abbrev pub random_salt_of : SystemState → List ℕ
random_salt_of w = salt_in (lookup w.files (codes "/dev/urandom"))

-- the bytes of a secret source of a system, if it is there
abbrev pub secret_bytes_in_system : SystemState → SecretSource → Option (List ℕ)
secret_bytes_in_system w stdin_once = w.stdin
secret_bytes_in_system w (env name) = lookup w.variables name
secret_bytes_in_system w (file name) = lookup w.files name

-- the name under which a secret source is opened, if it is a stream
abbrev pub name_opened_for_secret : Option SecretSource → Option (Option Text)
name_opened_for_secret None = None
name_opened_for_secret (Some stdin_once) = Some None
name_opened_for_secret (Some (env name)) = None
name_opened_for_secret (Some (file name)) = Some (Some name)

-- the name under which random bytes are opened for a salt, if one was asked for
abbrev pub name_opened_for_salt : Bool → Option (Option Text)
name_opened_for_salt false = None
name_opened_for_salt true = Some (Some (codes "/dev/urandom"))

-- what is left of the secret's stream once n bytes of a source were taken; a variable is no stream
abbrev pub rest_of_secret_stream : SecretSource → ℕ → SystemState → List ℕ
rest_of_secret_stream stdin_once n w = drop n (bytes_or_empty w.stdin)
rest_of_secret_stream (env name) n w = w.secret.left
rest_of_secret_stream (file name) n w = drop n (bytes_or_empty (lookup w.files name))

-- what is seen of the host that is made of a system and of how far a run has come
abbrev pub host_seen : RunState → HostState
host_seen h = record {
  input = h.state.input.left;
  input_is_stdin = h.state.input_is_stdin;
  output = h.state.output;
  input_opened = h.state.input.opened;
  output_opened = if h.grants.writable then h.state.output_asked else None;
  output_asked = h.state.output_asked;
  asked = h.asked;
  salted = h.salted;
  said = h.state.said;
  stdin = h.state.stdin;
  variables = lookup h.state.variables;
  files = lookup h.state.files;
  salt = random_salt_of h.state;
}

-- what is seen of the host over a system that was not used yet
abbrev pub host_over : SystemState → HostState
host_over w = host_seen (record { state = w; failures = no_faults; system_files = placeholder_files; grants = nothing_asked; asked = None; salted = false; told = false })

-- what a run leaves of a system: it stands as a host over it is seen at the end of the run. As a secret's stream it
-- opened at most the source that the host was asked for, and random bytes at most for a salt; and it emptied nothing
-- but an output that it opened
pub record Leaves (after : SystemState) (seen : HostState) : Type 0 where
  pub held : RunState
  pub over : held.state ≡ after
  pub same : host_seen held ≡ seen
  pub secret : OpensNoOther (name_opened_for_secret seen.asked) after.secret
  pub random : OpensNoOther (name_opened_for_salt seen.salted) after.random
  pub unemptied : seen.output_opened ≡ None → after.is_emptied ≡ false

-- of a run with these failures, whose host is seen like this, a line was said, or could not be said, though it was
-- asked for unless something was opened to be read; and so the system is left
pub record EndsWithLine (tells : Bool) (line : Text) (before : HostState) (faults_before : Faults) (after : SystemState) (faults_after : Faults) : Type 0 where
  pub seen : HostState
  pub leaves : IsTrue tells → Leaves after seen
  pub says : SaysOneLine tells line before seen faults_before faults_after
  pub asks : IsTrue tells → IsLineAskedUnlessReading after

-- a run has come as far before a call as after it, or less far: the output was not asked to be brought to the disk, no kind of
-- call has failed less often, and what was opened or asked for stays so; once an output was asked for, which files the
-- streams are stays, too
pub record GoesOn (before after : RunState) : Type 0 where
  pub sync_asked : after.state.sync_asked ≡ before.state.sync_asked
  pub failures : AreNoFewer before.failures after.failures
  pub output : after.state.output_asked ≡ None → before.state.output_asked ≡ None
  pub input : (after.state.input.opened ≡ None → after.state.output_asked ≡ None) → before.state.input.opened ≡ None → before.state.output_asked ≡ None
  pub files : (before.state.output_asked ≡ None → ⊥) → after.system_files ≡ before.system_files

-- a run has come as far as its stages say; `told` is whether it tried to say a line
pub record IsAt (input_stage : InputStage) (output_stage : OutputStage) (asked : Option SecretSource) (salted told : Bool) (grants : CallsGrantedByHost) (w : SystemState) (f : Files) : Type 0 where
  pub unopened : grants.input ≡ true → w.input.opened ≡ None
  pub going : input_stage ≡ input.Opened → w.input.is_ended ≡ false
  pub ended : input_stage ≡ input.Ended → w.input.left ≡ []
  pub unasked : grants.secret ≡ true → w.secret.opened ≡ None
  pub unsalted : grants.salt ≡ true → w.random.opened ≡ None
  pub early : grants.output ≡ true → w.output_asked ≡ None
  pub late : is_output_unasked output_stage ≡ false → is_none w.output_asked ≡ false
  pub new : is_output_opened output_stage ≡ true → w.is_new ≡ true
  pub apart : is_output_opened output_stage ≡ true → IsOutputSeparate f
  pub secret : OpensNoOther (name_opened_for_secret asked) w.secret
  pub random : OpensNoOther (name_opened_for_salt salted) w.random
  pub named : is_output_opened output_stage ≡ true → is_none w.output_asked ≡ false
  pub unemptied : is_output_opened output_stage ≡ false → w.is_emptied ≡ false
  pub streamed : output_stage ≡ output.Opened → w.is_kept ≡ false
  pub kept : output_stage ≡ output.Kept → w.is_kept ≡ true
  pub before_sync : is_before_sync output_stage ≡ true → w.sync_asked ≡ false
  pub after_sync : is_before_sync output_stage ≡ false → w.sync_asked ≡ true
  pub not_yet : is_before_sync output_stage ≡ true → w.is_synced ≡ false
  pub synced : output_stage ≡ output.Synced → IsOutputSynced w
  pub unsynced : output_stage ≡ output.Unsynced → IsOutputUnsynced w
  pub unsaid : told ≡ false → w.said ≡ []
  pub line : told ≡ true → IsLineAskedUnlessReading w
