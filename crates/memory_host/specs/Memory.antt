-- What contracts see of a host in memory.
use Rattle.std.specs.Prelude.{Bool, false, not, ℕ, ◌-◌, ◌^◌, List, [], ◌∷◌, Option, Some, None, is_none, is_some}
use Rattle.host.specs.HostState.{SecretSource, HostState, Text}
use Rattle.host.specs.Faults.{Faults, no_faults}
use Rattle.host.specs.CallsGrantedByHost.{CallsGrantedByHost}
use Rattle.host.specs.Entries.{Entry, lookup}

-- a host in memory: its bytes, names and lines, whether its input is standard input itself, and may be pulled from, its
-- counts of failures, the greatest sizes of a pull and of a push in bytes, the number of the call that is to fail (0:
-- none), and how many calls there were
pub record Memory : Type 0 where
  pub input : List ℕ
  pub input_is_stdin : Bool
  pub output : List ℕ
  pub input_opened : Option (Option Text)
  pub output_opened : Option (Option Text)
  pub output_asked : Option (Option Text)
  pub asked : Option SecretSource
  pub salted : Bool
  pub readable : Bool
  pub said : List Text
  pub stdin : List ℕ
  pub variables : List Entry
  pub files : List Entry
  pub salt : List ℕ
  pub faults : Faults
  pub pull_size : ℕ
  pub push_size : ℕ
  pub failing : ℕ
  pub calls : ℕ

-- a new host: nothing is opened, asked, said or written, nothing failed, no call is to fail, and the sizes are not
-- bounded
abbrev pub new_host_in_memory : List ℕ → List ℕ → List ℕ → Memory
new_host_in_memory input stdin salt = record {
  input = input;
  input_is_stdin = false;
  output = [];
  input_opened = None;
  output_opened = None;
  output_asked = None;
  asked = None;
  salted = false;
  readable = false;
  said = [];
  stdin = stdin;
  variables = [];
  files = [];
  salt = salt;
  faults = no_faults;
  pull_size = 2 ^ 64 - 1;
  push_size = 2 ^ 64 - 1;
  failing = 0;
  calls = 0;
}

-- what contracts see of a host in memory: its bytes, names and lines
abbrev pub memory_host_state : Memory → HostState
memory_host_state m = record {
  input = m.input;
  input_is_stdin = m.input_is_stdin;
  output = m.output;
  input_opened = m.input_opened;
  output_opened = m.output_opened;
  output_asked = m.output_asked;
  asked = m.asked;
  salted = m.salted;
  said = m.said;
  stdin = Some m.stdin;
  variables = lookup m.variables;
  files = lookup m.files;
  salt = m.salt;
}

-- the calls that a host in memory grants
abbrev pub memory_host_grants : Memory → CallsGrantedByHost
memory_host_grants m = record {
  input = is_none m.input_opened;
  readable = m.readable;
  output = is_none m.output_asked;
  writable = is_some m.output_opened;
  secret = is_none m.asked;
  salt = not m.salted;
}

-- the counts of failures of a host in memory
abbrev pub memory_host_failure_counts : Memory → Faults
memory_host_failure_counts m = m.faults

-- the host in memory with a variable more
abbrev pub with_environment_variable : Text → List ℕ → Memory → Memory
with_environment_variable name bytes m = record m { variables = record { name = name; bytes = bytes } ∷ m.variables }

-- the host in memory with a secret file more
abbrev pub with_file : Text → List ℕ → Memory → Memory
with_file name bytes m = record m { files = record { name = name; bytes = bytes } ∷ m.files }

-- the host in memory whose input is standard input itself, or is not
abbrev pub with_input_as_stdin : Bool → Memory → Memory
with_input_as_stdin is_stdin m = record m { input_is_stdin = is_stdin }

-- the host in memory with these greatest sizes of a pull and of a push
abbrev pub with_sizes : ℕ → ℕ → Memory → Memory
with_sizes pull push m = record m { pull_size = pull; push_size = push }

-- the host in memory of which the call of this number is to fail
abbrev pub with_failing_call : ℕ → Memory → Memory
with_failing_call call m = record m { failing = call }
