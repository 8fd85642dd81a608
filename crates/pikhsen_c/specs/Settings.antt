-- What an encoded text says of its hash's settings.
use Rattle.std.specs.Prelude.{◌≡◌, ◌<◌, ◌≤◌, ℕ, List, length, Option, Some, None}
use Rattle.argon.specs.Kind.{type_number}
use Rattle.argon_text.specs.EncodedText.{IsEncodedTextOf}
use Rattle.argon_text.specs.Grammar.{Fields, HasFields, HasWellFormedNumbers, IsEncodedText, value_of_fields}
use Rattle.argon_text.specs.Settings.{first_encoded_range_fault}
use Rattle.argon_text.specs.Value.{IsEncodableValue, Value}
use Rattle.argon_text.specs.declared.range.RangeFault.{RangeFault}
use Rattle.pikhsen_c.specs.Status.{not_encoded_status, out_of_memory_status, range_fault_status}
use Rattle.pikhsen_c.specs.declared.settings.PikhsenArgon2Settings.{PikhsenArgon2Settings}

-- the settings of a value, as the functions for C answer them
abbrev pub c_settings_of_value : Value → PikhsenArgon2Settings
c_settings_of_value value = record {
  kind = type_number value.kind;
  version = value.version;
  passes = value.passes;
  memory_kib = value.memory;
  lanes = value.lanes;
  salt_len = length value.salt;
  tag_len = length value.tag;
}

-- the text is that of a value with these settings
pub record HasSettings (text : List ℕ) (settings : PikhsenArgon2Settings) : Type 0 where
  pub value : Value
  pub valid : IsEncodableValue value
  pub written : IsEncodedTextOf value text
  pub told : settings ≡ c_settings_of_value value

-- the text is that of a value with the settings that are wanted where the answer is 0, and with others where it is 1
pub record ComparesSettings (text : List ℕ) (wanted : PikhsenArgon2Settings) (needs : ℕ) : Type 0 where
  pub value : Value
  pub valid : IsEncodableValue value
  pub written : IsEncodedTextOf value text
  pub same : needs ≡ 0 → c_settings_of_value value ≡ wanted
  pub other : needs ≡ 1 → c_settings_of_value value ≡ wanted → ⊥
  pub high : needs ≤ 1

-- the number of a fault of ranges; 0 where there is none
abbrev pub number_of : Option RangeFault → ℕ
number_of None = 0
number_of (Some fault) = range_fault_status fault

-- the number is that of the first part of what the text says that is out of range; 0 where none is
abbrev pub IsOutOfRange : List ℕ → ℕ → Type 0
IsOutOfRange text status =
    (fields : Fields) × HasFields text fields × (status ≡ number_of (first_encoded_range_fault (value_of_fields fields)))

-- what each number of the reading of settings says of the text: there is no other than 0, 9, 14 and 31 to 36. Each
-- part of a text that may be out of range has a number of its own, and the first is told
pub record IsStatusOfReading (text : List ℕ) (status : ℕ) : Type 0 where
  pub not_in_grammar : status ≡ not_encoded_status → IsEncodedText text → ⊥
  pub out_of_range : 31 ≤ status → IsOutOfRange text status
  pub memory : status ≡ out_of_memory_status → HasWellFormedNumbers text
  pub low : 0 < status → out_of_memory_status ≤ status
  pub gap : out_of_memory_status < status → not_encoded_status ≤ status
  pub gap_after_14 : not_encoded_status < status → 31 ≤ status
  pub high : status ≤ 36
