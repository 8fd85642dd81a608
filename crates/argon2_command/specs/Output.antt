-- What argon2 writes.
use Rattle.std.specs.Prelude.{◌≡◌, ℕ, ◌==◌, ◌++◌, List, [], ◌∷◌, Option, Some, None, Result, Ok, Err, length, nat_le, if◌then◌else◌}
use Rattle.hex.specs.Hex.{encode_lower}
pub use Rattle.argon.specs.Argon2.{Parameters}
use Rattle.argon.specs.Argon2.{argon2_tag}
use Rattle.argon.specs.Counts.{work}
use Rattle.argon.specs.Kind.{type_number}
use Rattle.argon.specs.Range.{admission, checked_parameters}
use Rattle.argon.specs.declared.fault.ParamFault.{ParamFault}
use Rattle.argon_text.specs.EncodedText.{encoded_text}
use Rattle.argon_text.specs.Value.{Value}
use Rattle.host.specs.HostState.{HostState, Text}
use Rattle.command_words.specs.Answer.{◌>>=◌}
use Rattle.argon2_words.specs.Refusal.{refusal_of}
pub use Rattle.argon2_words.specs.Request.{Request}
use Rattle.argon2_words.specs.Request.{argon2_request}
use Rattle.argon2_words.specs.Settings.{version_number}
use Rattle.argon2_words.specs.declared.items.Form.{Form}
pub use Rattle.argon2_words.specs.declared.items.Form.TheVariants.{Encoded, Hex}
use Rattle.argon2_words.specs.declared.refusal.Argon2Refusal.{Argon2Refusal}
use Rattle.argon2_words.specs.declared.refusal.Argon2Refusal.TheVariants as refusal

-- the password, which is the whole standard input, 1 to 127 bytes, or its refusal (A8a, A8b, A8c)
abbrev pub password_in : Option (List ℕ) → Result (List ℕ) Argon2Refusal
password_in None = Err refusal.PasswordFault
password_in (Some bytes) =
    if length bytes == 0 then Err refusal.EmptyPassword
    else if nat_le 128 (length bytes) then Err refusal.LongPassword
    else Ok bytes

-- some standard input has this refusal
abbrev pub RefusesInput : Argon2Refusal → Type 0
RefusesInput r = (stdin : Option (List ℕ)) × (password_in stdin ≡ Err r)

-- the parameters of a request and a password; their ranges are not tested yet (RFC 9106, 3.1)
abbrev pub parameters_of : Request → List ℕ → Parameters
parameters_of q password = record {
  kind = type_number q.settings.kind;
  version = version_number q.settings.version;
  passes = q.settings.passes;
  lanes = q.settings.lanes;
  memory_kib = q.settings.memory_kib;
  tag_len = q.settings.tag_length;
  salt_len = length q.salt;
  password_len = length password;
}

-- what was found, or the refusal of the command by the fault of parameters
abbrev pub param_fault_as_refusal : {A : Type 0} → Result A ParamFault → Result A Argon2Refusal
param_fault_as_refusal (Ok x) = Ok x
param_fault_as_refusal (Err fault) = Err (refusal_of fault)

-- the parameters of a request and a password, where they are in range and the limits of the request admit them, or
-- the first refusal (A6.1 to A6.5, A7a, A7b)
abbrev pub admitted_parameters : Request → List ℕ → Result Parameters Argon2Refusal
admitted_parameters q password = do
  parameters ← param_fault_as_refusal (checked_parameters (parameters_of q password))
  admitted ← param_fault_as_refusal (admission parameters q.settings.max_memory_kib q.settings.max_ops)
  Ok parameters

-- the tag of a password and a salt, with no secret and no associated data (RFC 9106, 3.2, steps 1 to 8)
abbrev pub tag_of : Text → List ℕ → Parameters → List ℕ
tag_of salt password p = argon2_tag p (record { password = password; salt = salt; secret = []; associated = [] })

-- the value that the encoded text of a request's tag says
abbrev pub value_of_request_and_tag : Request → List ℕ → Value
value_of_request_and_tag q tag = record {
  kind = q.settings.kind;
  version = version_number q.settings.version;
  memory = q.settings.memory_kib;
  passes = q.settings.passes;
  lanes = q.settings.lanes;
  salt = q.salt;
  tag = tag;
}

-- a tag in the form that is asked for: the encoded text, or lower hexadecimal
abbrev pub tag_text : Form → Request → List ℕ → List ℕ
tag_text Encoded q tag = encoded_text (value_of_request_and_tag q tag)
tag_text Hex q tag = encode_lower tag

-- a tag in the form that is asked for, and a line feed
abbrev pub tag_line : Request → List ℕ → List ℕ
tag_line q tag = tag_text q.form q tag ++ 10 ∷ []

-- the line that a request, a password and the parameters of both give
abbrev pub output_line : Request → List ℕ → Parameters → List ℕ
output_line q password p = tag_line q (tag_of q.salt password p)

-- what standard output gets if standard input gives `stdin` (None: it fails), no other call of the host fails and
-- memory is there, or the refusal: first of the words, then of the password, then of the parameters, then of the
-- limits
abbrev pub output_for : List Text → Option (List ℕ) → Result (List ℕ) Argon2Refusal
output_for words stdin = do
  request ← argon2_request words
  password ← password_in stdin
  parameters ← admitted_parameters request password
  Ok (output_line request password parameters)

-- what standard output gets of a run over this host, if no call of the host fails and memory is there, or the
-- refusal: first of the words, then of the password, then of the parameters, then of the limits
abbrev pub argon2_command_output : List Text → HostState → Result (List ℕ) Argon2Refusal
argon2_command_output words seen = output_for words seen.stdin

-- how many block functions the hash of a request takes, which no password changes
abbrev pub request_work : Request → ℕ
request_work q = work (parameters_of q [])
