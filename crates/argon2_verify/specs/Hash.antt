-- The hash that a line says, and why it is refused before a password is asked for.
use Rattle.std.specs.Prelude.{◌≡◌, ◌⊎◌, ◌<◌, ◌≤◌, ℕ, List, [], Option, Some, None, length, nat_lt, if◌then◌else◌}
use Rattle.argon.specs.Argon2.{block_count}
use Rattle.argon.specs.Counts.{work}
use Rattle.argon_text.specs.Answer.{IsReadFaultOfText}
use Rattle.argon_text.specs.EncodedText.{IsEncodedTextOf}
use Rattle.argon_text.specs.Value.{Value, IsEncodableValue}
use Rattle.argon_text.specs.Verifying.{parameters_of_value}
use Rattle.argon_text.specs.declared.fault.ReadFault.{ReadFault}
use Rattle.argon_text.specs.declared.fault.ReadFault.TheVariants as fault
use Rattle.argon2_verify.specs.declared.refusal.VerifyRefusal.{VerifyRefusal}
use Rattle.argon2_verify.specs.declared.refusal.VerifyRefusal.TheVariants as refusal
use Rattle.argon2_verify.specs.declared.request.Limits.{Limits}

-- the line, of at most 8,191 bytes, is the text of this value, which is in range
pub record Says (line : List ℕ) (v : Value) : Type 0 where
  pub short : length line ≤ 8191
  pub value : IsEncodableValue v
  pub text : IsEncodedTextOf v line

-- the refusal of the command by the fault of a text
abbrev pub read_refusal : ReadFault → VerifyRefusal
read_refusal fault.NotInGrammar = refusal.NotHash
read_refusal fault.OutOfRange = refusal.OutOfRange
read_refusal fault.OutOfMemory = refusal.OutOfMemory

-- why a line is refused: it has more than 8,191 bytes, which no text in range has; or by the fault of the text
abbrev pub IsLineRefused : List ℕ → VerifyRefusal → Type 0
IsLineRefused line r =
    ((8191 < length line) × (r ≡ refusal.NotHash))
    ⊎ ((length line ≤ 8191) × ((f : ReadFault) × IsReadFaultOfText line f × (r ≡ read_refusal f)))

-- why limits refuse the hash of a value, if they do, whatever the password is: memory first
abbrev pub limits_refusal : Limits → Value → Option VerifyRefusal
limits_refusal l v =
    if nat_lt l.max_kib (block_count (parameters_of_value v [])) then Some refusal.MemoryLimit
    else if nat_lt l.max_ops (work (parameters_of_value v [])) then Some refusal.WorkLimit
    else None
