-- What private functions say of the numbers that they answer.
use Rattle.std.specs.Prelude.{◌≡◌, ◌≢◌, ◌≤◌, ◌==◌, ℕ, Bool, true, false, not, List, Option, Some, None, Result, Ok, Err, IfErr}
use Rattle.pikhsen_c.specs.Status.{long_input_status, long_password_status, above_memory_limit_status, above_work_limit_status, not_encoded_status, out_of_memory_status, out_of_range_status, wrong_passphrase_status}
use Rattle.argon_text.specs.Grammar.{IsEncodedText, IsEncodedTextInRange}
use Rattle.argon_text.specs.declared.fault.VerifyFault.{VerifyFault}
use Rattle.argon_text.specs.declared.fault.VerifyFault.TheVariants as verify
use Rattle.argon_text.specs.declared.fault.ReadFault.{ReadFault}
use Rattle.argon_text.specs.declared.fault.ReadFault.TheVariants as read

-- the number of a result: 0, or that of what is refused
abbrev pub status_of_result : {A : Type 0} → Result A ℕ → ℕ
status_of_result (Ok _) = 0
status_of_result (Err status) = status

-- the number is that of a refusal: not 0
abbrev pub IsRefusalStatus : ℕ → Type 0
IsRefusalStatus status = 1 ≤ status

-- the number is that of a refusal before memory is asked for: not 0, not that of refused memory, and not that of a wrong
-- passphrase
pub record IsRefusalBeforeMemory (status : ℕ) : Type 0 where
  pub some : 1 ≤ status
  pub not_memory : status ≢ out_of_memory_status
  pub not_passphrase : status ≢ wrong_passphrase_status

-- a result is refused by the first number that holds, before memory is asked for
pub record RefusesEarly {A : Type 0} (first : ℕ) (result : Result A ℕ) : Type 0 where
  pub status : first ≡ status_of_result result
  pub early : IfErr result IsRefusalBeforeMemory

-- the same, or memory was refused, which was asked for where nothing else is refused
pub record RefusesEarlyOrMemory {A : Type 0} (first : ℕ) (result : Result A ℕ) : Type 0 where
  pub fault : status_of_result result ≢ out_of_memory_status → status_of_result result ≡ first
  pub memory : status_of_result result ≡ out_of_memory_status → first ≡ 0
  pub at_least_1 : IfErr result IsRefusalStatus

-- the number of what the test of a password against a text is refused for; those of parameters are the numbers that
-- they have there
abbrev pub verify_fault_status : VerifyFault → ℕ
verify_fault_status verify.PasswordLength = long_password_status
verify_fault_status verify.InputLength = long_input_status
verify_fault_status verify.MemoryLimit = above_memory_limit_status
verify_fault_status verify.WorkLimit = above_work_limit_status
verify_fault_status verify.OutOfMemory = out_of_memory_status

-- the number of what the reading of a text is refused for
abbrev pub read_fault_status : ReadFault → ℕ
read_fault_status read.NotInGrammar = not_encoded_status
read_fault_status read.OutOfRange = out_of_range_status
read_fault_status read.OutOfMemory = out_of_memory_status

-- the text is an encoded text, and a value of it is out of range
abbrev pub IsTextOutOfRange : List ℕ → Type 0
IsTextOutOfRange text = IsEncodedText text × (IsEncodedTextInRange text → ⊥)

-- whether every request for memory was granted, by the number that was answered
abbrev pub was_memory_granted : ℕ → Bool
was_memory_granted status = not (status == out_of_memory_status)

-- whether every request for memory was granted, by the fault of reading
abbrev pub had_memory_to_read : ReadFault → Bool
had_memory_to_read read.NotInGrammar = true
had_memory_to_read read.OutOfRange = true
had_memory_to_read read.OutOfMemory = false

-- where the number is that of a fault which comes before memory is asked for, it is the first that holds; where it is
-- that of refused memory, none of these holds
pub record IsStatusOfFirstFault (status : ℕ) (first : Option VerifyFault) : Type 0 where
  pub password_len : status ≡ long_password_status → first ≡ Some verify.PasswordLength
  pub input_len : status ≡ long_input_status → first ≡ Some verify.InputLength
  pub memory_limit : status ≡ above_memory_limit_status → first ≡ Some verify.MemoryLimit
  pub work_limit : status ≡ above_work_limit_status → first ≡ Some verify.WorkLimit
  pub memory : status ≡ out_of_memory_status → first ≡ None
