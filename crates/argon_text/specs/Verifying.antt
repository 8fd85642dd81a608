-- Whether a password gives the tag of a value, and why that is not answered.
use Rattle.std.specs.Prelude.{◌≡◌, ◌≢◌, ◌||◌, ◌+◌, ◌↔◌, ℕ, Bool, true, false, not, nat_le, nat_lt, List, [], length, if◌then◌else◌, Option, Some, None, Result, IfOk, IfErr, OnOk, IsTrue}
use Rattle.argon.specs.Argon2.{Parameters, argon2_tag, block_count}
use Rattle.argon.specs.Counts.{work}
use Rattle.argon.specs.Kind.{type_number}
use Rattle.argon.specs.Range.{is_between}
use Rattle.argon_text.specs.Value.{Value}
use Rattle.argon_text.specs.declared.fault.VerifyFault.{VerifyFault}
use Rattle.argon_text.specs.declared.fault.VerifyFault.TheVariants.{PasswordLength, InputLength, MemoryLimit, WorkLimit, OutOfMemory}

-- the parameters that a value and a password give (RFC 9106, 3.1)
abbrev pub parameters_of_value : Value → List ℕ → Parameters
parameters_of_value v password = record {
  kind = type_number v.kind;
  version = v.version;
  passes = v.passes;
  lanes = v.lanes;
  memory_kib = v.memory;
  tag_len = length v.tag;
  salt_len = length v.salt;
  password_len = length password;
}

-- the tag of the password under the value's parameters, with a secret value K and associated data X (RFC 9106, 3.1;
-- 3.2, steps 1 to 8)
abbrev pub keyed_tag : Value → List ℕ → List ℕ → List ℕ → List ℕ
keyed_tag v password secret associated = argon2_tag (parameters_of_value v password) (record {
  password = password;
  salt = v.salt;
  secret = secret;
  associated = associated;
})

-- the tag of the password under the value's parameters, with no secret and no associated data (RFC 9106, 3.2, steps 1
-- to 8)
abbrev pub tag_of_password : Value → List ℕ → List ℕ
tag_of_password v password = keyed_tag v password [] []

-- why a password is not tested against a value, if it isn't, before memory is asked for: the first that holds of the
-- length of the password, those of the secret and the associated data, all of which RFC 9106, 3.1, ends at 2^32-1
-- bytes, the limit on memory, the limit on work
abbrev pub keyed_verify_fault : Value → List ℕ → ℕ → ℕ → ℕ → ℕ → Option VerifyFault
keyed_verify_fault v password secret_len associated_len max_kib max_ops =
    if not (nat_le (length password) 0xFFFFFFFF) then Some PasswordLength
    else if nat_lt 0xFFFFFFFF secret_len || nat_lt 0xFFFFFFFF associated_len then Some InputLength
    else if nat_lt max_kib (block_count (parameters_of_value v password)) then Some MemoryLimit
    else if nat_lt max_ops (work (parameters_of_value v password)) then Some WorkLimit
    else None

-- why a password of 1 to 127 bytes, this project's own range, is not tested against a value, if it isn't, with no
-- secret and no associated data: the first that holds of the length of the password, the limit on memory, the limit
-- on work
abbrev pub verify_fault : Value → List ℕ → ℕ → ℕ → Option VerifyFault
verify_fault v password max_kib max_ops =
    if not (is_between 1 (length password) 127) then Some PasswordLength
    else keyed_verify_fault v password 0 0 max_kib max_ops

-- the fault that is reported is the first that holds; that of memory comes only where none holds
abbrev pub IsToldFault : Option VerifyFault → VerifyFault → Type 0
IsToldFault first PasswordLength = first ≡ Some PasswordLength
IsToldFault first InputLength = first ≡ Some InputLength
IsToldFault first MemoryLimit = first ≡ Some MemoryLimit
IsToldFault first WorkLimit = first ≡ Some WorkLimit
IsToldFault first OutOfMemory = first ≡ None

-- where there is an answer, it says whether the tag is the one that is expected
abbrev pub TellsSame : Result Bool VerifyFault → List ℕ → List ℕ → Type 0
TellsSame result tag expected = IfOk result (λ same. IsTrue same ↔ (tag ≡ expected))

-- what the test of a password of 1 to 127 bytes tells, with no secret and no associated data: where its length and both
-- limits are kept, whether it gives the tag; else the first fault that holds, and that of memory where none does
pub record IsResultOfVerifying (v : Value) (password : List ℕ) (max_kib max_ops : ℕ) (result : Result Bool VerifyFault)
    : Type 0 where
  pub answer : TellsSame result (tag_of_password v password) v.tag
  pub admitted : IfOk result (λ _. verify_fault v password max_kib max_ops ≡ None)
  pub fault : IfErr result (IsToldFault (verify_fault v password max_kib max_ops))

-- ---- what a test of a password with this result asks of its source of memory, and its work

-- memory is asked for last: no refusal but that of memory changes the source; where there is an answer, the matrix of the
-- value and the password was granted, under these limits, and where the refusal is that of memory, it was refused.
-- `after_matrix` is what a request for the matrix leaves of the source
pub record RequestsMemoryLast {Source A : Type 0} (after_matrix : Source → Parameters → ℕ → ℕ → Bool → Source) (v : Value)
    (password : List ℕ) (max_kib max_ops : ℕ) (result : Result A VerifyFault) (before after : Source) : Type 0 where
  pub unasked : IfErr result (λ fault. fault ≢ OutOfMemory → after ≡ before)
  pub asked : OnOk result (after ≡ after_matrix before (parameters_of_value v password) max_kib max_ops true)
  pub refused : IfErr result (λ fault. fault ≡ OutOfMemory
      → after ≡ after_matrix before (parameters_of_value v password) max_kib max_ops false)

-- the count of block functions goes on by those of one hash where there is an answer, and stays at any refusal
pub record HashesOnce {A : Type 0} (v : Value) (password : List ℕ) (result : Result A VerifyFault) (before after : ℕ)
    : Type 0 where
  pub no_work : IfErr result (λ _. after ≡ before)
  pub count : OnOk result (after ≡ before + work (parameters_of_value v password))
