-- What contracts see of a system in memory.
use Rattle.std.specs.Prelude.{◌≡◌, ℕ, Bool, List, [], ◌∷◌, ◌++◌, Option, None, Some, false}
use Rattle.host.specs.Faults.{Faults, no_faults}
use Rattle.host.specs.HostState.{Text}
use Rattle.tools.specs.declared.identity.FileIdentity.{FileIdentity}
use Rattle.tools.specs.SystemState.{Files, Source, SystemState, placeholder_files, placeholder_state}

-- a system in memory: its bytes, names and lines, which files its streams are, how often a read or a write was
-- asked for, how often each kind of call has failed, and the words of the process
pub record Memory : Type 0 where
  pub state : SystemState
  pub files : Files
  pub tries : ℕ
  pub failures : Faults
  pub words : List Text

-- nothing stands under any name, nothing was opened, said or tried, and nothing has failed
abbrev pub new_system_in_memory : Memory
new_system_in_memory = record { state = placeholder_state; files = placeholder_files; tries = 0; failures = no_faults; words = [] }

-- a stream that is not opened yet, and is to give these bytes
abbrev pub source_not_yet_opened : List ℕ → Source
source_not_yet_opened bytes = record { opened = None; left = bytes; is_ended = false }

-- what was not opened is no file, before an output is opened and then
abbrev pub IsNoFileUntilOpened : Source → Option FileIdentity → Option FileIdentity → Type 0
IsNoFileUntilOpened s before after = s.opened ≡ None → (before ≡ None) × (after ≡ None)

-- the system with this input, which is not opened yet
abbrev pub with_input_bytes : List ℕ → Memory → Memory
with_input_bytes bytes m = record m { state = record m.state { input = source_not_yet_opened bytes }; files = record m.files { input = None } }

-- the system whose input is standard input itself, or is not
abbrev pub with_input_as_stdin : Bool → Memory → Memory
with_input_as_stdin is_stdin m = record m { state = record m.state { input_is_stdin = is_stdin } }

-- the system with this standard input
abbrev pub with_stdin_bytes : List ℕ → Memory → Memory
with_stdin_bytes bytes m = record m { state = record m.state { stdin = Some bytes } }

-- the system with another file before the others
abbrev pub with_file : Text → List ℕ → Memory → Memory
with_file name bytes m = record m { state = record m.state { files = record { name = name; bytes = bytes } ∷ m.state.files } }

-- the system with another variable before the others
abbrev pub with_environment_variable : Text → List ℕ → Memory → Memory
with_environment_variable name bytes m = record m { state = record m.state { variables = record { name = name; bytes = bytes } ∷ m.state.variables } }

-- the system whose standard error is this file, if it is one
abbrev pub with_standard_error_file : Option FileIdentity → Memory → Memory
with_standard_error_file file m = record m { files = record m.files { error = file } }

-- the system with another word after the others
abbrev pub append_word : Text → Memory → Memory
append_word word m = record m { words = m.words ++ (word ∷ []) }
