-- The numbers that say to a program in C what came of a call: one table, and 0 where the call did what it says.
use Rattle.std.specs.Prelude.{◌≡◌, ◌≢◌, ℕ, ◌==◌, if◌then◌else◌}
use Rattle.argon.specs.declared.fault.ParamFault.{ParamFault}
use Rattle.argon.specs.declared.fault.ParamFault.TheVariants as params
use Rattle.romix.specs.declared.fault.CostFault.{CostFault}
use Rattle.romix.specs.declared.fault.CostFault.TheVariants as costs
use Rattle.argon_text.specs.declared.range.RangeFault.{RangeFault}
use Rattle.argon_text.specs.declared.range.RangeFault.TheVariants as range
use Rattle.encfile.specs.declared.fault.HeaderFault.{HeaderFault}
use Rattle.encfile.specs.declared.fault.HeaderFault.TheVariants as header

-- 1 to 8: what Argon2's parameters are refused for
abbrev pub param_fault_status : ParamFault → ℕ
param_fault_status params.Passes = 1
param_fault_status params.Lanes = 2
param_fault_status params.Memory = 3
param_fault_status params.TagLength = 4
param_fault_status params.SaltLength = 5
param_fault_status params.PasswordLength = 6
param_fault_status params.MemoryLimit = 7
param_fault_status params.WorkLimit = 8

-- 6: the number of a password of 2^32 bytes or more
abbrev pub long_password_status : ℕ
long_password_status = param_fault_status params.PasswordLength

-- 7: the number of more memory than the limit allows
abbrev pub above_memory_limit_status : ℕ
above_memory_limit_status = param_fault_status params.MemoryLimit

-- 8: the number of more work than the limit allows
abbrev pub above_work_limit_status : ℕ
above_work_limit_status = param_fault_status params.WorkLimit

-- the number where memory was refused
abbrev pub out_of_memory_status : ℕ
out_of_memory_status = 9

-- the number of a kind that is not 0, 1 or 2
abbrev pub no_kind_status : ℕ
no_kind_status = 10

-- the number of a version that is not 0x10 or 0x13
abbrev pub unknown_version_status : ℕ
unknown_version_status = 11

-- the number of a secret, or associated data, of 2^32 bytes or more
abbrev pub long_input_status : ℕ
long_input_status = 12

-- the number of a buffer that has not the length that the call needs
abbrev pub wrong_buffer_status : ℕ
wrong_buffer_status = 13

-- the number of a text that is no encoded text
abbrev pub not_encoded_status : ℕ
not_encoded_status = 14

-- the number of an encoded text with a value out of range
abbrev pub out_of_range_status : ℕ
out_of_range_status = 15

-- the number of a password that is not that of the text
abbrev pub mismatch_status : ℕ
mismatch_status = 16

-- 17 to 21: what scrypt's costs are refused for; the limits have the numbers that they have for Argon2
abbrev pub cost_fault_status : CostFault → ℕ
cost_fault_status costs.LogN = 17
cost_fault_status costs.Zero = 18
cost_fault_status costs.Product = 19
cost_fault_status costs.Keep = 20
cost_fault_status costs.KeepAboveN = 21
cost_fault_status costs.Memory = 7
cost_fault_status costs.Work = 8

-- 22 to 25: what the header of a file is refused for
abbrev pub header_fault_status : HeaderFault → ℕ
header_fault_status header.Magic = 22
header_fault_status header.Version = 23
header_fault_status header.Checksum = 24
header_fault_status header.CostsOutOfRange = 25

-- the number of a file without a whole header
abbrev pub short_file_status : ℕ
short_file_status = 26

-- the number of a passphrase that is not the file's
abbrev pub wrong_passphrase_status : ℕ
wrong_passphrase_status = 27

-- the number of a file that is damaged, or cut short, after its first 96 bytes
abbrev pub damaged_status : ℕ
damaged_status = 28

-- the number of a text of 2^60 bytes or more
abbrev pub long_text_status : ℕ
long_text_status = 29

-- the number of a salt for a file that has not 32 bytes
abbrev pub wrong_salt_status : ℕ
wrong_salt_status = 30

-- 31 to 36: which part of an encoded text is out of range
abbrev pub range_fault_status : RangeFault → ℕ
range_fault_status range.Version = 31
range_fault_status range.Passes = 32
range_fault_status range.Lanes = 33
range_fault_status range.Memory = 34
range_fault_status range.TagLength = 35
range_fault_status range.SaltLength = 36

-- the number of a stream that runs already, or does not run in this direction
abbrev pub wrong_stream_state_status : ℕ
wrong_stream_state_status = 37

-- a call with this number, and what a caller handed in before and after it: at any refusal it stays as it was
abbrev pub IsUnchangedIfRefused : {T : Type 0} → ℕ → T → T → Type 0
IsUnchangedIfRefused status before after = status ≢ 0 → after ≡ before

-- a call with this number, and the length of the text that it tells: at any refusal there is no text
abbrev pub ReturnsNoLengthIfRefused : ℕ → ℕ → Type 0
ReturnsNoLengthIfRefused status len = status ≢ 0 → len ≡ 0

-- the first of two numbers, if it is not 0, or else the second
abbrev pub first_nonzero_status : ℕ → ℕ → ℕ
first_nonzero_status first second = if first == 0 then second else first

-- the number is that of the first refusal, or 0 where nothing is refused; or memory was refused, which was asked for
-- where nothing else is refused. At any refusal what a caller handed in stays as it was
pub record RefusesByFirst {T : Type 0} (first status : ℕ) (before after : T) : Type 0 where
  pub fault : status ≢ out_of_memory_status → status ≡ first
  pub memory : status ≡ out_of_memory_status → first ≡ 0
  pub untouched : IsUnchangedIfRefused status before after

-- the number is that of the first refusal of a file that is opened, where some numbers are told late, after memory was
-- granted
pub record ReturnsFirstOrLateStatus (IsLate : Type 0) (first status : ℕ) : Type 0 where
  pub fault : status ≢ out_of_memory_status → (IsLate → ⊥) → status ≡ first
  pub memory : status ≡ out_of_memory_status → first ≡ 0
  pub late : IsLate → first ≡ 0
