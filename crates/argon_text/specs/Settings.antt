-- The settings of a value, and the first part of a value that is out of range.
use Rattle.std.specs.Prelude.{◌≡◌, ℕ, ◌-◌, ◌*◌, ◌^◌, not, List, length, if◌then◌else◌, Option, Some, None}
use Rattle.argon.specs.Range.{is_between, is_version}
use Rattle.argon_text.specs.Grammar.{Fields, HasFields, value_of_fields}
use Rattle.argon_text.specs.Value.{Value}
use Rattle.argon_text.specs.declared.range.RangeFault.{RangeFault}
use Rattle.argon_text.specs.declared.range.RangeFault.TheVariants as fault
use Rattle.argon_text.specs.declared.settings.Settings.{Settings}

-- all that a value says but the bytes of salt and tag, of which it keeps the lengths
abbrev pub settings_of_encoded_value : Value → Settings
settings_of_encoded_value v = record {
  kind = v.kind;
  version = v.version;
  memory = v.memory;
  passes = v.passes;
  lanes = v.lanes;
  salt_len = length v.salt;
  tag_len = length v.tag;
}

-- the first of these that is out of its range: version, passes, lanes, memory, and the lengths of tag and salt; the
-- ranges are those of `are_in_range`
abbrev pub first_field_range_fault : ℕ → ℕ → ℕ → ℕ → ℕ → ℕ → Option RangeFault
first_field_range_fault version passes lanes memory tag_len salt_len =
    if not (is_version version) then Some fault.Version
    else if not (is_between 1 passes (2 ^ 32 - 1)) then Some fault.Passes
    else if not (is_between 1 lanes (2 ^ 24 - 1)) then Some fault.Lanes
    else if not (is_between (8 * lanes) memory (2 ^ 32 - 1)) then Some fault.Memory
    else if not (is_between 4 tag_len 4096) then Some fault.TagLength
    else if not (is_between 8 salt_len 255) then Some fault.SaltLength
    else None

-- the first of the numbers and lengths of a value that is out of its range
abbrev pub first_encoded_range_fault : Value → Option RangeFault
first_encoded_range_fault v = first_field_range_fault v.version v.passes v.lanes v.memory (length v.tag) (length v.salt)

-- if the text is in the grammar, the answer is the first fault of the ranges of the value that the text says
abbrev pub IsFirstFault : List ℕ → Option RangeFault → Type 0
IsFirstFault text told = (fields : Fields) → HasFields text fields → told ≡ first_encoded_range_fault (value_of_fields fields)
