-- Why 64 bytes are no header.
use Rattle.std.specs.Prelude.{◌≡◌, ℕ, ◌==◌, Bool, not, List, [], ◌∷◌, slice_index, is_some, Option, Some, None, Result, IfOk, IfErr, OnOk}
use Rattle.romix.specs.Costs.{Parameters}
use Rattle.romix.specs.Faults.{cost_fault}
use Rattle.romix.specs.FirstOf.{first_of}
use Rattle.encfile.specs.Header.{CostsAndSalt, IsHeaderOf, costs_of, has_magic, has_right_checksum, salt_of}
use Rattle.encfile.specs.declared.fault.HeaderFault.{HeaderFault}
use Rattle.encfile.specs.declared.fault.HeaderFault.TheVariants.{Magic, Version, Checksum, CostsOutOfRange}

-- whether the numbers that a header has are no costs of a derivation
abbrev pub are_out_of_range : Parameters → Bool
are_out_of_range costs = is_some (cost_fault costs.log_n costs.r costs.p)

-- why the bytes, of which the first 64 count, are no header, if they aren't: the first fault in the order of the
-- lines
abbrev pub header_fault : List ℕ → Option HeaderFault
header_fault file = first_of (
    (not (has_magic file), Magic)
    ∷ (not (slice_index file 6 == 0), Version)
    ∷ (not (has_right_checksum file), Checksum)
    ∷ (are_out_of_range (costs_of file), CostsOutOfRange)
    ∷ [])

-- with this result the first 64 bytes of the file, `first`, are the header of the costs and the salt that it says; or they are
-- none, for this fault
pub record ReadsHeader (file first : List ℕ) (result : Result CostsAndSalt HeaderFault) : Type 0 where
  pub costs : IfOk result (λ said. said.costs ≡ costs_of file)
  pub salt : IfOk result (λ said. said.salt ≡ salt_of file)
  pub header : IfOk result (λ said. IsHeaderOf first said)
  pub valid : OnOk result (header_fault file ≡ None)
  pub fault : IfErr result (λ told. header_fault file ≡ Some told)
