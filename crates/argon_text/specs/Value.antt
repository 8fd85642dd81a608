-- What an encoded text says, and its ranges.
use Rattle.std.specs.Prelude.{◌≡◌, ℕ, ◌-◌, ◌*◌, ◌^◌, Bool, true, ◌&&◌, List, length}
use Rattle.base64.specs.GeneralPurpose.{IsBytes}
use Rattle.argon.specs.Range.{is_between, is_version}
use Rattle.argon.specs.declared.kind.Kind.{Kind}

-- what an encoded text says: the type y, the version v, memory m in KiB, passes t, lanes p, salt S and tag T (RFC
-- 9106, 3.1)
pub record Value : Type 0 where
  pub kind : Kind
  pub version : ℕ
  pub memory : ℕ
  pub passes : ℕ
  pub lanes : ℕ
  pub salt : List ℕ
  pub tag : List ℕ

-- whether the version is 0x10 or 0x13, and the numbers and lengths are in the ranges of RFC 9106, 3.1, but for the
-- greatest lengths of salt and tag and the least length of a salt, which are this project's
abbrev pub are_in_range : ℕ → ℕ → ℕ → ℕ → ℕ → ℕ → Bool
are_in_range version memory passes lanes salt_len tag_len =
    is_version version
    && is_between 1 passes (2 ^ 32 - 1)
    && is_between 1 lanes (2 ^ 24 - 1)
    && is_between (8 * lanes) memory (2 ^ 32 - 1)
    && is_between 8 salt_len 255
    && is_between 4 tag_len 4096

-- whether the numbers and lengths of a value are in their ranges (RFC 9106, 3.1, and this project's lengths)
abbrev pub is_in_range : Value → Bool
is_in_range v = are_in_range v.version v.memory v.passes v.lanes (length v.salt) (length v.tag)

-- a value that an `Encoded` can have
pub record IsEncodableValue (v : Value) : Type 0 where
  pub in_range : is_in_range v ≡ true
  pub salt : IsBytes v.salt
  pub tag : IsBytes v.tag
