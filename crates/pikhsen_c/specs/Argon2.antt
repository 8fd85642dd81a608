-- What a caller gives to the functions for Argon2, and what they answer.
use Rattle.std.specs.Prelude.{◌≡◌, ◌==◌, ◌||◌, ◌≢◌, ◌⊎◌, ◌+◌, ◌<◌, ◌≤◌, ℕ, not, nat_lt, nat_le, List, [], length, replicate, Result, Ok, Err, Option, Some, None, if◌then◌else◌}
pub use Rattle.argon.specs.Argon2.{argon2_tag}
pub use Rattle.argon.specs.Counts.{work}
pub use Rattle.argon.specs.Parameters.{Inputs, Parameters}
use Rattle.argon.specs.Range.{admission, checked_with_any_password_length, is_version}
use Rattle.argon.specs.declared.fault.ParamFault.{ParamFault}
use Rattle.argon.specs.declared.kind.Kind.{Kind}
use Rattle.argon.specs.declared.kind.Kind.TheVariants.{D, I, Id}
use Rattle.argon_text.specs.EncodedText.{IsEncodedTextOf, encoded_text}
use Rattle.argon_text.specs.Grammar.{HasWellFormedNumbers, IsEncodedText, IsEncodedTextInRange}
pub use Rattle.argon_text.specs.Value.{IsEncodableValue, Value}
use Rattle.argon_text.specs.Verifying.{keyed_verify_fault, keyed_tag, parameters_of_value}
use Rattle.argon_text.specs.declared.fault.VerifyFault.{VerifyFault}
use Rattle.argon_text.specs.declared.fault.VerifyFault.TheVariants as verify
use Rattle.pikhsen_c.specs.Status.{first_nonzero_status, long_input_status, long_password_status, mismatch_status, above_memory_limit_status, above_work_limit_status, no_kind_status, unknown_version_status, not_encoded_status, out_of_memory_status, out_of_range_status, param_fault_status, wrong_buffer_status, IsUnchangedIfRefused, ReturnsNoLengthIfRefused}

-- the parameters of these numbers (RFC 9106, 3.1)
abbrev pub parameters_of_numbers : ℕ → ℕ → ℕ → ℕ → ℕ → ℕ → ℕ → ℕ → Parameters
parameters_of_numbers kind version passes lanes memory_kib tag_len salt_len password_len = record {
  kind = kind;
  version = version;
  passes = passes;
  lanes = lanes;
  memory_kib = memory_kib;
  tag_len = tag_len;
  salt_len = salt_len;
  password_len = password_len;
}

-- the texts that are hashed (3.1)
abbrev pub inputs_given : List ℕ → List ℕ → List ℕ → List ℕ → Inputs
inputs_given password salt secret associated = record {
  password = password;
  salt = salt;
  secret = secret;
  associated = associated;
}

-- the type of a number up to 2 (3.1)
abbrev pub kind_numbered : ℕ → Kind
kind_numbered number = if number == 0 then D else if number == 1 then I else Id

-- ---- what is refused before memory is asked for, by its number; or 0

-- the number of a fault, or `rest` where there is none
abbrev pub fault_status_or : {A : Type 0} → Result A ParamFault → ℕ → ℕ
fault_status_or (Ok _) rest = rest
fault_status_or (Err fault) _ = param_fault_status fault

-- what the kind, the version and the ranges of the parameters are refused for, by its number; or 0; the password has
-- any length that RFC 9106, 3.1, allows
abbrev pub params_status : Parameters → ℕ
params_status parameters =
    if nat_lt 2 parameters.kind then no_kind_status
    else if not (is_version parameters.version) then unknown_version_status
    else fault_status_or (checked_with_any_password_length parameters) 0

-- what the lengths of the secret and of the associated data are refused for, by its number; or 0
abbrev pub inputs_status : ℕ → ℕ → ℕ
inputs_status secret_len associated_len =
    if nat_lt 0xFFFFFFFF secret_len || nat_lt 0xFFFFFFFF associated_len then long_input_status else 0

-- what the limits refuse the parameters for, by its number; or 0
abbrev pub limits_status : Parameters → ℕ → ℕ → ℕ
limits_status parameters max_kib max_ops = fault_status_or (admission parameters max_kib max_ops) 0

-- what a hash is refused for before memory is asked for, by its number; or 0
abbrev pub hash_status : Parameters → ℕ → ℕ → ℕ → ℕ → ℕ
hash_status parameters secret_len associated_len max_kib max_ops =
    first_nonzero_status (params_status parameters)
    (first_nonzero_status (inputs_status secret_len associated_len) (limits_status parameters max_kib max_ops))

-- ---- the encoded text of a hash

-- what these parameters and this salt give with this tag
abbrev pub value_to_encode : Parameters → List ℕ → List ℕ → Value
value_to_encode parameters salt tag = record {
  kind = kind_numbered parameters.kind;
  version = parameters.version;
  memory = parameters.memory_kib;
  passes = parameters.passes;
  lanes = parameters.lanes;
  salt = salt;
  tag = tag;
}

-- the encoded text of the password's hash, with a secret value K and associated data X (3.1)
abbrev pub encoded_keyed_hash : Parameters → List ℕ → List ℕ → List ℕ → List ℕ → List ℕ
encoded_keyed_hash parameters password salt secret associated =
    encoded_text (value_to_encode parameters salt (argon2_tag parameters (inputs_given password salt secret associated)))

-- the encoded text of the password's hash, with no secret and no associated data
abbrev pub encoded_hash : Parameters → List ℕ → List ℕ → List ℕ
encoded_hash parameters password salt = encoded_keyed_hash parameters password salt [] []

-- the encoded text that has zeros for a tag, which is as long as the one of the hash
abbrev pub encoded_text_with_zero_tag : Parameters → List ℕ → List ℕ
encoded_text_with_zero_tag parameters salt = encoded_text (value_to_encode parameters salt (replicate parameters.tag_len 0))

-- whether a buffer is too small for a text and a byte 0 after it
abbrev pub room_status : ℕ → ℕ → ℕ
room_status text_len out_len = if nat_le out_len text_len then wrong_buffer_status else 0

-- what an encoded text with a secret and associated data of these lengths is refused for before memory is asked for,
-- by its number; or 0
abbrev pub encoded_keyed_status : Parameters → List ℕ → ℕ → ℕ → ℕ → ℕ → ℕ → ℕ
encoded_keyed_status parameters salt secret_len associated_len max_kib max_ops out_len =
    first_nonzero_status (hash_status parameters secret_len associated_len max_kib max_ops)
    (room_status (length (encoded_text_with_zero_tag parameters salt)) out_len)

-- the same with no secret and no associated data
abbrev pub hash_to_encoded_status : Parameters → List ℕ → ℕ → ℕ → ℕ → ℕ
hash_to_encoded_status parameters salt = encoded_keyed_status parameters salt 0 0

-- with a secret and associated data of these lengths, a text is refused by the first number that holds, the last being
-- that of the room, and memory is refused where nothing before that is; at any refusal there is no text
pub record RefusesEncoding (parameters : Parameters) (salt : List ℕ) (secret_len associated_len max_kib max_ops status len : ℕ)
    (before after : List ℕ) : Type 0 where
  pub fault : status ≢ out_of_memory_status
      → status ≡ encoded_keyed_status parameters salt secret_len associated_len max_kib max_ops (length before)
  pub memory : status ≡ out_of_memory_status → hash_status parameters secret_len associated_len max_kib max_ops ≡ 0
  pub untouched : IsUnchangedIfRefused status before after
  pub nothing : ReturnsNoLengthIfRefused status len

-- ---- the test of a password

-- the text is that of a value within the limits, and the password gives the value's tag, with a secret value K and
-- associated data X (3.1)
pub record PasswordMatchesKeyedHash (text password secret associated : List ℕ) (max_kib max_ops : ℕ) : Type 0 where
  pub value : Value
  pub valid : IsEncodableValue value
  pub written : IsEncodedTextOf value text
  pub admitted : keyed_verify_fault value password (length secret) (length associated) max_kib max_ops ≡ None
  pub same : keyed_tag value password secret associated ≡ value.tag

-- the text is that of a value within the limits, and the password gives a tag that is not the value's, with a secret
-- value K and associated data X (3.1)
pub record HasWrongKeyedPassword (text password secret associated : List ℕ) (max_kib max_ops : ℕ) : Type 0 where
  pub value : Value
  pub valid : IsEncodableValue value
  pub written : IsEncodedTextOf value text
  pub admitted : keyed_verify_fault value password (length secret) (length associated) max_kib max_ops ≡ None
  pub other : keyed_tag value password secret associated ≡ value.tag → ⊥

-- the text is that of a value for which this is the first fault of the lengths and the limits, or none; the secret
-- and the associated data have these lengths
pub record HasKeyedVerifyFault (first : Option VerifyFault) (text password : List ℕ)
    (secret_len associated_len max_kib max_ops : ℕ) : Type 0 where
  pub value : Value
  pub valid : IsEncodableValue value
  pub written : IsEncodedTextOf value text
  pub refused : keyed_verify_fault value password secret_len associated_len max_kib max_ops ≡ first

-- memory may be refused for this text: it is asked for where the numbers of the text are read, and for the hash where
-- nothing else refuses it; the secret and the associated data have these lengths
abbrev pub MayLackKeyedMemory : List ℕ → List ℕ → ℕ → ℕ → ℕ → ℕ → Type 0
MayLackKeyedMemory text password secret_len associated_len max_kib max_ops =
    HasWellFormedNumbers text ⊎ HasKeyedVerifyFault None text password secret_len associated_len max_kib max_ops

-- what each number of the test of a password says of the text, with a secret value K and associated data X (3.1)
pub record IsVerdict (text password secret associated : List ℕ) (max_kib max_ops status : ℕ) : Type 0 where
  pub right : status ≡ 0 → PasswordMatchesKeyedHash text password secret associated max_kib max_ops
  pub wrong : status ≡ mismatch_status → HasWrongKeyedPassword text password secret associated max_kib max_ops
  pub not_in_grammar : status ≡ not_encoded_status → IsEncodedText text → ⊥
  pub outside : status ≡ out_of_range_status → IsEncodedText text × (IsEncodedTextInRange text → ⊥)
  pub password_len : status ≡ long_password_status
      → HasKeyedVerifyFault (Some verify.PasswordLength) text password (length secret) (length associated) max_kib max_ops
  pub input_len : status ≡ long_input_status
      → HasKeyedVerifyFault (Some verify.InputLength) text password (length secret) (length associated) max_kib max_ops
  pub memory_limit : status ≡ above_memory_limit_status
      → HasKeyedVerifyFault (Some verify.MemoryLimit) text password (length secret) (length associated) max_kib max_ops
  pub work_limit : status ≡ above_work_limit_status
      → HasKeyedVerifyFault (Some verify.WorkLimit) text password (length secret) (length associated) max_kib max_ops
  pub memory : status ≡ out_of_memory_status
      → MayLackKeyedMemory text password (length secret) (length associated) max_kib max_ops

-- a number that the test of a password answers: 0, 6 to 9, 12, or 14 to 16
pub record IsVerifyNumber (status : ℕ) : Type 0 where
  pub low : 0 < status → long_password_status ≤ status
  pub gap : out_of_memory_status < status → long_input_status ≤ status
  pub gap_after_12 : long_input_status < status → not_encoded_status ≤ status
  pub high : status ≤ mismatch_status

-- the count of block functions rose by those of one hash, of this password under the parameters of this text, and these
-- are at most `max_ops`
pub record CountsTest (text password : List ℕ) (max_ops before after : ℕ) : Type 0 where
  pub value : Value
  pub valid : IsEncodableValue value
  pub written : IsEncodedTextOf value text
  pub counted : after ≡ before + work (parameters_of_value value password)
  pub admitted : work (parameters_of_value value password) ≤ max_ops

-- no block function is run before every refusal is ruled out, and then those of one hash, also for a wrong password
pub record CountsWorkToVerify (text password : List ℕ) (max_ops status before after : ℕ) : Type 0 where
  pub no_work : status ≢ 0 → status ≢ mismatch_status → after ≡ before
  pub count : status ≡ 0 → CountsTest text password max_ops before after
  pub count_if_wrong : status ≡ mismatch_status → CountsTest text password max_ops before after
