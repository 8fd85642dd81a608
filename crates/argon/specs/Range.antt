-- The ranges of the parameters (RFC 9106, 3.1). The upper ends of tag and salt are narrower here, and so is the lower
-- one of a salt, which has at least 8 bytes. A password may have all lengths of the RFC, 0 to 2^32-1 bytes, or is
-- narrowed, too, to 1 to 127 bytes.
use Rattle.std.specs.Prelude.{◌≡◌, ℕ, ◌*◌, ◌==◌, ◌<◌, ◌≤◌, ◌^◌, Bool, true, ◌&&◌, ◌||◌, nat_le, Result, Ok, Err, ⊤, if◌then◌else◌}
use Rattle.argon.specs.Counts.{work}
use Rattle.argon.specs.Parameters.{Parameters, block_count}
use Rattle.argon.specs.declared.fault.ParamFault.{ParamFault}
use Rattle.argon.specs.declared.fault.ParamFault.TheVariants as fault

-- whether there is a version of this number: 0x13 (3.1), and 0x10, which was before it
abbrev pub is_version : ℕ → Bool
is_version version = (version == 0x10) || (version == 0x13)

-- each parameter is in its range: in that of RFC 9106, 3.1, but for the greatest lengths of tag, salt and password
-- and the least lengths of salt and password, which are this project's
pub record IsInRange (parameters : Parameters) : Type 0 where
  pub kind : parameters.kind ≤ 2
  pub version : is_version parameters.version ≡ true
  pub passes : 1 ≤ parameters.passes
  pub passes_end : parameters.passes < 2 ^ 32
  pub lanes : 1 ≤ parameters.lanes
  pub lanes_end : parameters.lanes < 2 ^ 24
  pub memory : 8 * parameters.lanes ≤ parameters.memory_kib
  pub memory_end : parameters.memory_kib < 2 ^ 32
  pub tag_len : 4 ≤ parameters.tag_len
  pub tag_len_end : parameters.tag_len ≤ 4096
  pub salt_len : 8 ≤ parameters.salt_len
  pub salt_len_end : parameters.salt_len ≤ 255
  pub password_len : 1 ≤ parameters.password_len
  pub password_len_end : parameters.password_len ≤ 127

-- the same with a password of any length that RFC 9106, 3.1, allows, 0 to 2^32-1 bytes
pub record IsInRangeWithAnyPassword (parameters : Parameters) : Type 0 where
  pub kind : parameters.kind ≤ 2
  pub version : is_version parameters.version ≡ true
  pub passes : 1 ≤ parameters.passes
  pub passes_end : parameters.passes < 2 ^ 32
  pub lanes : 1 ≤ parameters.lanes
  pub lanes_end : parameters.lanes < 2 ^ 24
  pub memory : 8 * parameters.lanes ≤ parameters.memory_kib
  pub memory_end : parameters.memory_kib < 2 ^ 32
  pub tag_len : 4 ≤ parameters.tag_len
  pub tag_len_end : parameters.tag_len ≤ 4096
  pub salt_len : 8 ≤ parameters.salt_len
  pub salt_len_end : parameters.salt_len ≤ 255
  pub password_len_end : parameters.password_len < 2 ^ 32

-- whether a number is in a range, its ends included
abbrev pub is_between : ℕ → ℕ → ℕ → Bool
is_between low number high = nat_le low number && nat_le number high

-- `rest` where the test holds, and the fault where it fails
abbrev pub fault_unless : {A : Type 0} → Bool → ParamFault → Result A ParamFault → Result A ParamFault
fault_unless test refusal rest = if test then rest else Err refusal

-- the parameters where each number is in its range (3.1, and this project's lengths), or the first fault in the order
-- of the lines; kind and version are not tested here
abbrev pub checked_parameters : Parameters → Result Parameters ParamFault
checked_parameters parameters =
    fault_unless (is_between 1 parameters.passes 0xFFFFFFFF) fault.Passes
    (fault_unless (is_between 1 parameters.lanes 0xFFFFFF) fault.Lanes
    (fault_unless (is_between (8 * parameters.lanes) parameters.memory_kib 0xFFFFFFFF) fault.Memory
    (fault_unless (is_between 4 parameters.tag_len 4096) fault.TagLength
    (fault_unless (is_between 8 parameters.salt_len 255) fault.SaltLength
    (fault_unless (is_between 1 parameters.password_len 127) fault.PasswordLength (Ok parameters))))))

-- the same with a password of any length that the RFC allows, 0 to 2^32-1 bytes
abbrev pub checked_with_any_password_length : Parameters → Result Parameters ParamFault
checked_with_any_password_length p =
    fault_unless (is_between 1 p.passes 0xFFFFFFFF) fault.Passes
    (fault_unless (is_between 1 p.lanes 0xFFFFFF) fault.Lanes
    (fault_unless (is_between (8 * p.lanes) p.memory_kib 0xFFFFFFFF) fault.Memory
    (fault_unless (is_between 4 p.tag_len 4096) fault.TagLength
    (fault_unless (is_between 8 p.salt_len 255) fault.SaltLength
    (fault_unless (nat_le p.password_len 0xFFFFFFFF) fault.PasswordLength (Ok p))))))

-- Ok where the blocks, each of 1 KiB, are no more than `max_kib` and the block functions no more than `max_ops`; or
-- the first fault
abbrev pub admission : Parameters → ℕ → ℕ → Result ⊤ ParamFault
admission parameters max_kib max_ops =
    fault_unless (nat_le (block_count parameters) max_kib) fault.MemoryLimit
    (fault_unless (nat_le (work parameters) max_ops) fault.WorkLimit (Ok tt))
