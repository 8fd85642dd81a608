-- What is proved of the definitions alone.
use Rattle.std.specs.Prelude.{◌≡◌, ℕ, List, take, Some, None}
use Rattle.romix.specs.Allowance.{Allowance, costs_with_allowed_keep}
use Rattle.romix.specs.Costs.{Parameters}
use Rattle.romix.specs.Faults.{keep_parameter_fault, sparse_limit_fault}
use Rattle.romix.specs.SparseCosts.{CostsAndKeep}
use Rattle.romix.specs.declared.fault.CostFault.TheVariants as fault
use Rattle.encfile.specs.EncryptedFile.{HasRightHeaderHmac, IsEncryptionOf, encrypted_file, released_text}
use Rattle.encfile.specs.Front.{FrontRefusal, format_refusal, front_refusal, header_refusal, file_refusal_before_passphrase}
use Rattle.encfile.specs.Front.FrontRefusal.{KeepAboveN, WrongPassphrase, TooMuchMemory, TooMuchWork}
use Rattle.encfile.specs.Header.{costs_of}
use Rattle.encfile.specs.HeaderFaults.{header_fault}
use Rattle.encfile.specs.declared.fault.HeaderFault.{HeaderFault}

-- the file of a text has the right bytes 64 to 95, gives the text back, and is an encryption of it
pub record EncryptionRoundTrips (passphrase salt : List ℕ) (costs : Parameters) (text : List ℕ) : Type 0 where
  pub code : HasRightHeaderHmac (encrypted_file passphrase salt costs text) passphrase
  pub released : released_text (encrypted_file passphrase salt costs text) passphrase ≡ text
  pub encryption : IsEncryptionOf (encrypted_file passphrase salt costs text) passphrase text

-- what refuses a file, in this order: what refuses its header, then costs that are not allowed, whatever the
-- passphrase, then bytes 64 to 95
pub record IsDecidedInOrder (file : List ℕ) (allowed : Allowance) (passphrase : List ℕ) : Type 0 where
  pub format : (refusal : FrontRefusal) → format_refusal file ≡ Some refusal → file_refusal_before_passphrase file allowed ≡ Some refusal
  pub limits : (refusal : FrontRefusal) → file_refusal_before_passphrase file allowed ≡ Some refusal → front_refusal file allowed passphrase ≡ Some refusal
  pub wrong : file_refusal_before_passphrase file allowed ≡ None → (HasRightHeaderHmac file passphrase → ⊥)
      → front_refusal file allowed passphrase ≡ Some WrongPassphrase
  pub right : file_refusal_before_passphrase file allowed ≡ None → HasRightHeaderHmac file passphrase → front_refusal file allowed passphrase ≡ None

-- the costs that the header of a file says, with the S of an allowance; S may be any number here, also no power of
-- two
abbrev pub header_costs_with_allowed_keep : List ℕ → Allowance → CostsAndKeep
header_costs_with_allowed_keep header allowed = costs_with_allowed_keep allowed (costs_of header)

-- what refuses a file of 96 bytes or more: on its first 96 bytes, what `Header::read`, `Sparse::new`,
-- `Sparse::admitted` and `Dec::open` answer, in this order. Nothing is said of an S that is no power of two from 1 to
-- 1,024, for which `Sparse::new` answers `Keep`
pub record IsRefusedByFirstFailingCall (file : List ℕ) (allowed : Allowance) (passphrase front : List ℕ) : Type 0 where
  pub header : (told : HeaderFault) → header_fault (take 64 front) ≡ Some told
      → front_refusal file allowed passphrase ≡ Some (header_refusal told)
  pub keep : header_fault (take 64 front) ≡ None → keep_parameter_fault (header_costs_with_allowed_keep (take 64 front) allowed) ≡ Some fault.KeepAboveN
      → front_refusal file allowed passphrase ≡ Some KeepAboveN
  pub memory : header_fault (take 64 front) ≡ None → keep_parameter_fault (header_costs_with_allowed_keep (take 64 front) allowed) ≡ None
      → sparse_limit_fault (header_costs_with_allowed_keep (take 64 front) allowed) allowed.limits ≡ Some fault.Memory
      → front_refusal file allowed passphrase ≡ Some TooMuchMemory
  pub work : header_fault (take 64 front) ≡ None → keep_parameter_fault (header_costs_with_allowed_keep (take 64 front) allowed) ≡ None
      → sparse_limit_fault (header_costs_with_allowed_keep (take 64 front) allowed) allowed.limits ≡ Some fault.Work
      → front_refusal file allowed passphrase ≡ Some TooMuchWork
  pub wrong : header_fault (take 64 front) ≡ None → keep_parameter_fault (header_costs_with_allowed_keep (take 64 front) allowed) ≡ None
      → sparse_limit_fault (header_costs_with_allowed_keep (take 64 front) allowed) allowed.limits ≡ None
      → (HasRightHeaderHmac front passphrase → ⊥) → front_refusal file allowed passphrase ≡ Some WrongPassphrase
  pub right : header_fault (take 64 front) ≡ None → keep_parameter_fault (header_costs_with_allowed_keep (take 64 front) allowed) ≡ None
      → sparse_limit_fault (header_costs_with_allowed_keep (take 64 front) allowed) allowed.limits ≡ None
      → HasRightHeaderHmac front passphrase → front_refusal file allowed passphrase ≡ None
