-- The encoded text of a value (the reference implementation of Argon2, encoding.c; base64 of RFC 4648, 4 and 3.2).
use Rattle.std.specs.Prelude.{◌≡◌, ◌⊎◌, List, [], ℕ, ◌++◌, codes}
use Rattle.std.specs.Fmt.{decimal}
use Rattle.base64.specs.GeneralPurpose.{encode_of}
use Rattle.base64.specs.Engines.{standard_no_pad}
use Rattle.argon.specs.declared.kind.Kind.{Kind}
use Rattle.argon.specs.declared.kind.Kind.TheVariants.{D, I, Id}
use Rattle.argon_text.specs.Value.{Value}

-- the name of a type in an encoded text
abbrev pub kind_name : Kind → List ℕ
kind_name D = codes "d"
kind_name I = codes "i"
kind_name Id = codes "id"

-- base64 in the standard alphabet, without padding (RFC 4648, 4 and 3.2)
unfoldable pub base64_text : List ℕ → List ℕ
base64_text bytes = encode_of standard_no_pad bytes

-- the field of a version, by its digits
abbrev pub version_field : List ℕ → List ℕ
version_field digits = codes "$v=" ++ digits

-- the fields of a text, one after another, each after its label; the field of the version comes whole, or empty where
-- a text has none
unfoldable pub text_of_fields : List ℕ → List ℕ → List ℕ → List ℕ → List ℕ → List ℕ → List ℕ → List ℕ
text_of_fields kind version memory passes lanes salt tag =
    codes "$argon2" ++ kind ++ version ++ codes "$m=" ++ memory ++ codes ",t=" ++ passes
    ++ codes ",p=" ++ lanes ++ codes "$" ++ salt ++ codes "$" ++ tag

-- the text of a value with this field of the version, its numbers in decimal
abbrev pub text_with_version_field : List ℕ → Value → List ℕ
text_with_version_field version v =
    text_of_fields (kind_name v.kind) version (decimal v.memory) (decimal v.passes) (decimal v.lanes)
    (base64_text v.salt) (base64_text v.tag)

-- the encoded text of a value, with the field of its version
abbrev pub encoded_text : Value → List ℕ
encoded_text v = text_with_version_field (version_field (decimal v.version)) v

-- the text of a value without the field of the version, as one of version 0x10 was written before texts had versions
abbrev pub short_text : Value → List ℕ
short_text v = text_with_version_field [] v

-- s is a text of the value: its encoded text, or, at version 0x10, the one without a version
abbrev pub IsEncodedTextOf : Value → List ℕ → Type 0
IsEncodedTextOf v s = (s ≡ encoded_text v) ⊎ ((v.version ≡ 0x10) × (s ≡ short_text v))
