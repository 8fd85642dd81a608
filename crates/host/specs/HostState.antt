-- What contracts see of a host that tells its bytes, and what each call leaves of it.
use Rattle.std.specs.Prelude.{◌≡◌, ◌<◌, ◌≤◌, Bool, true, false, ℕ, List, ◌∷◌, [], ◌++◌, drop, length, Option, Some, None, Result, IfOk, OnOk, OnErr}

-- a text: its bytes
abbrev pub Text : Type 0
Text = List ℕ

-- a secret source: standard input, a variable, or a file
pub data SecretSource : Type 0 where
  stdin_once : SecretSource
  env : Text → SecretSource
  file : Text → SecretSource

-- the input that is left, whether it is standard input itself, the output so far, the names under which input and
-- output were opened (None: not opened; Some None: the standard stream), the name under which an output was asked for,
-- whether or not it could be opened (None: none was asked for), the secret source that was asked (None: none was),
-- whether a salt was asked for, the lines said so far, the bytes of the secret sources (None: it is not there), and the
-- salt
pub record HostState : Type 0 where
  pub input : List ℕ
  pub input_is_stdin : Bool
  pub output : List ℕ
  pub input_opened : Option (Option Text)
  pub output_opened : Option (Option Text)
  pub output_asked : Option (Option Text)
  pub asked : Option SecretSource
  pub salted : Bool
  pub said : List Text
  pub stdin : Option (List ℕ)
  pub variables : Text → Option (List ℕ)
  pub files : Text → Option (List ℕ)
  pub salt : List ℕ

-- no input is opened yet, no output was asked for, no secret source was asked, and no salt was asked for
pub record IsUnasked (s : HostState) : Type 0 where
  pub input : s.input_opened ≡ None
  pub output : s.output_asked ≡ None
  pub asked : s.asked ≡ None
  pub unsalted : s.salted ≡ false

-- the host after a pull of n bytes: these are gone from the input
abbrev pub after_pull : ℕ → HostState → HostState
after_pull n s = record s { input = drop n s.input }

-- the host after a push: these bytes stand after the output
abbrev pub after_push : List ℕ → HostState → HostState
after_push bytes s = record s { output = s.output ++ bytes }

-- the host after a line more was said
abbrev pub after_say : Text → HostState → HostState
after_say line s = record s { said = s.said ++ (line ∷ []) }

-- the host after the input was opened under this name
abbrev pub after_open_input : Option Text → HostState → HostState
after_open_input name s = record s { input_opened = Some name }

-- the host after an output was asked for under this name, and could not be opened
abbrev pub after_ask_output : Option Text → HostState → HostState
after_ask_output name s = record s { output_asked = Some name }

-- the host after the output was opened under this name
abbrev pub after_open_output : Option Text → HostState → HostState
after_open_output name s = record s { output_opened = Some name; output_asked = Some name }

-- the host after this secret source was asked, whatever came of it
abbrev pub after_ask_secret : SecretSource → HostState → HostState
after_ask_secret source s = record s { asked = Some source }

-- the host after a salt was asked for, whatever came of it
abbrev pub after_salt : HostState → HostState
after_salt s = record s { salted = true }

-- stands for what is seen of a host that does not tell its bytes
abbrev pub placeholder_host_state : HostState
placeholder_host_state = record {
  input = [];
  input_is_stdin = false;
  output = [];
  input_opened = None;
  output_opened = None;
  output_asked = None;
  asked = None;
  salted = false;
  said = [];
  stdin = None;
  variables = λ _. None;
  files = λ _. None;
  salt = [];
}

-- ---- the results of calls

-- a call with this result, and what was so before and after it: where it fails, that stays as it was
abbrev pub KeepsOnErr : {A E T : Type 0} → Result A E → T → T → Type 0
KeepsOnErr result before after = OnErr result (after ≡ before)

-- a call with this result, and what was so before and after it: where it succeeds, that stays as it was
abbrev pub KeepsOnOk : {A E T : Type 0} → Result A E → T → T → Type 0
KeepsOnOk result before after = OnOk result (after ≡ before)

-- a call says a number of bytes: these are no more than there are, or than there is room for
abbrev pub FitsWithin : {E : Type 0} → Result ℕ E → List ℕ → Type 0
FitsWithin result bytes = IfOk result (λ n. n ≤ length bytes)

-- a call says how many bytes it took of these: some, where there are any
abbrev pub TakesSome : {E : Type 0} → Result ℕ E → List ℕ → Type 0
TakesSome result bytes = IfOk result (λ n. 0 < length bytes → 0 < n)
