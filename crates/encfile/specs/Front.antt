-- Why a file is refused before its text is looked at.
use Rattle.std.specs.Prelude.{ℕ, Bool, List, [], ◌∷◌, length, nat_lt, bytes_eq, Option, Some, None, option_map, if◌then◌else◌}
use Rattle.std.specs.Option.{option_or}
use Rattle.romix.specs.Allowance.{Allowance, costs_with_allowed_keep}
use Rattle.romix.specs.Costs.{Parameters}
use Rattle.romix.specs.Faults.{exceeds_memory, exceeds_work, is_keep_number_above_n}
use Rattle.romix.specs.FirstOf.{first_of}
use Rattle.encfile.specs.EncryptedFile.{right_header_hmac}
use Rattle.encfile.specs.Header.{bytes_at, costs_of}
use Rattle.encfile.specs.HeaderFaults.{header_fault}
use Rattle.encfile.specs.declared.fault.HeaderFault.{HeaderFault}
use Rattle.encfile.specs.declared.fault.HeaderFault.TheVariants.{Magic, Version, Checksum, CostsOutOfRange}

-- the reasons for which a file is refused before its text is looked at
pub data FrontRefusal : Type 0 where
  NotScryptData : FrontRefusal
  UnsupportedVersion : FrontRefusal
  KeepAboveN : FrontRefusal
  TooMuchMemory : FrontRefusal
  TooMuchWork : FrontRefusal
  WrongPassphrase : FrontRefusal

-- whether bytes 64 to 95 are the HMAC of bytes 0 to 63 under the passphrase
abbrev pub has_right_header_hmac : List ℕ → List ℕ → Bool
has_right_header_hmac file passphrase = bytes_eq (bytes_at file 64 32) (right_header_hmac file passphrase)

-- why a file is refused, by the fault of its header
unfoldable pub header_refusal : HeaderFault → FrontRefusal
header_refusal Magic = NotScryptData
header_refusal Version = UnsupportedVersion
header_refusal Checksum = NotScryptData
header_refusal CostsOutOfRange = NotScryptData

-- ---- the first reason that there is

-- why a file has no valid header, if it has none: it has fewer than 96 bytes, or its first 64 bytes have a fault
unfoldable pub format_refusal : List ℕ → Option FrontRefusal
format_refusal file = if nat_lt (length file) 96 then Some NotScryptData else option_map header_refusal (header_fault file)

-- why the costs are not allowed, if they aren't: S is above N, or a limit is exceeded
abbrev pub allowance_refusal : Parameters → Allowance → Option FrontRefusal
allowance_refusal costs allowed = first_of (
    (is_keep_number_above_n (costs_with_allowed_keep allowed costs), KeepAboveN)
    ∷ (exceeds_memory (costs_with_allowed_keep allowed costs) allowed.limits, TooMuchMemory)
    ∷ (exceeds_work (costs_with_allowed_keep allowed costs) allowed.limits, TooMuchWork)
    ∷ [])

-- why the file is refused whatever the passphrase, if it is: it has no valid header, or its costs are not allowed
unfoldable pub file_refusal_before_passphrase : List ℕ → Allowance → Option FrontRefusal
file_refusal_before_passphrase file allowed = option_or (format_refusal file) (allowance_refusal (costs_of file) allowed)

-- why the file is refused under the passphrase, if it is: by its header or its costs, whatever the passphrase, and
-- else since bytes 64 to 95 are not right
unfoldable pub front_refusal : List ℕ → Allowance → List ℕ → Option FrontRefusal
front_refusal file allowed passphrase =
    option_or (file_refusal_before_passphrase file allowed) (if has_right_header_hmac file passphrase then None else Some WrongPassphrase)
