-- The form of an encoded text, whatever its numbers and lengths are (the reference implementation of Argon2,
-- encoding.c), by cases on its bytes.
use Rattle.std.specs.Prelude.{◌≡◌, ℕ, ◌==◌, Bool, false, true, ◌&&◌, ◌||◌, List, [], ◌∷◌, Option, Some, None, IfSome, length, nat_le}
use Rattle.std.specs.List.{list_all}
use Rattle.std.specs.Char.{is_ascii_digit}
use Rattle.std.specs.Str.Parse.{digits_value}
use Rattle.std.specs.Fmt.{decimal}
use Rattle.argon.specs.declared.kind.Kind.{Kind}
use Rattle.argon_text.specs.Base64.{base64_bytes, is_base64}
use Rattle.argon_text.specs.EncodedText.{base64_text, kind_name, text_of_fields, version_field}
use Rattle.argon_text.specs.Value.{Value, is_in_range}

-- whether bytes are the digit 0 alone, or a digit from 1 to 9 and any digits after it
abbrev pub is_number : List ℕ → Bool
is_number [] = false
is_number (first ∷ others) =
    ((first == 48) && (length others == 0))
    || (nat_le 49 first && nat_le first 57 && list_all is_ascii_digit others)

-- the number that digits write in decimal
abbrev pub number_value : List ℕ → ℕ
number_value digits = digits_value 10 digits

-- the fields of a text as they are written: its type, the digits of its numbers, the symbols of salt and tag; the
-- version may be left out
pub record Fields : Type 0 where
  pub kind : Kind
  pub version : Option (List ℕ)
  pub memory : List ℕ
  pub passes : List ℕ
  pub lanes : List ℕ
  pub salt : List ℕ
  pub tag : List ℕ

-- the field of the version of a text, by its digits, or nothing where it has none
abbrev pub version_part : Option (List ℕ) → List ℕ
version_part None = []
version_part (Some digits) = version_field digits

-- the text that fields make
abbrev pub fields_text : Fields → List ℕ
fields_text fields =
    text_of_fields (kind_name fields.kind) (version_part fields.version) fields.memory fields.passes fields.lanes
    fields.salt fields.tag

-- the numbers of the fields have the form of numbers
pub record AreNumbers (fields : Fields) : Type 0 where
  pub version : IfSome fields.version (λ digits. is_number digits ≡ true)
  pub memory : is_number fields.memory ≡ true
  pub passes : is_number fields.passes ≡ true
  pub lanes : is_number fields.lanes ≡ true

-- s is the text of these fields, each has its form, and nothing follows them
pub record HasFields (s : List ℕ) (fields : Fields) : Type 0 where
  pub text : s ≡ fields_text fields
  pub numbers : AreNumbers fields
  pub salt : is_base64 fields.salt ≡ true
  pub tag : is_base64 fields.tag ≡ true

-- s is in the grammar of encoded texts: it is the text of some fields that have their form
abbrev pub IsEncodedText : List ℕ → Type 0
IsEncodedText s = (fields : Fields) × HasFields s fields

-- s is the text of some fields whose numbers have their form, whatever stands for salt and tag
abbrev pub HasWellFormedNumbers : List ℕ → Type 0
HasWellFormedNumbers s = (fields : Fields) × (s ≡ fields_text fields) × AreNumbers fields

-- the version that a text says, by its digits: 0x10 where it has none
abbrev pub version_said : Option (List ℕ) → ℕ
version_said None = 0x10
version_said (Some digits) = number_value digits

-- the value that fields say, if salt and tag have these bytes
abbrev pub value_with_salt_and_tag : Fields → List ℕ → List ℕ → Value
value_with_salt_and_tag fields salt tag = record {
  kind = fields.kind;
  version = version_said fields.version;
  memory = number_value fields.memory;
  passes = number_value fields.passes;
  lanes = number_value fields.lanes;
  salt = salt;
  tag = tag;
}

-- the value that fields say
abbrev pub value_of_fields : Fields → Value
value_of_fields fields = value_with_salt_and_tag fields (base64_bytes fields.salt) (base64_bytes fields.tag)

-- s is in the grammar of encoded texts, and the value that it says lies in the ranges
abbrev pub IsEncodedTextInRange : List ℕ → Type 0
IsEncodedTextInRange s = (fields : Fields) × HasFields s fields × (is_in_range (value_of_fields fields) ≡ true)

-- the fields of a value's text with these digits of the version, its other numbers in decimal
abbrev pub fields_of_value_with_version : Option (List ℕ) → Value → Fields
fields_of_value_with_version version v = record {
  kind = v.kind;
  version = version;
  memory = decimal v.memory;
  passes = decimal v.passes;
  lanes = decimal v.lanes;
  salt = base64_text v.salt;
  tag = base64_text v.tag;
}

-- the fields as which a value is written, with its version
abbrev pub fields_of_value : Value → Fields
fields_of_value v = fields_of_value_with_version (Some (decimal v.version)) v
