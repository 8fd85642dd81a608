-- How a text is taken apart, field by field, before base64 is decoded.
use Rattle.std.specs.Prelude.{◌≡◌, ◌⊎◌, Bool, true, false, ℕ, ◌+◌, ◌==◌, if◌then◌else◌, List, length, take, drop, codes, Option, Some, None, Result, Err}
use Rattle.std.specs.Str.{bytes_eq}
use Rattle.std.specs.Option.{option_map}
use Rattle.std.specs.List.{position}
use Rattle.argon.specs.declared.kind.Kind.{Kind}
use Rattle.argon.specs.declared.kind.Kind.TheVariants.{D, I, Id}
use Rattle.base64.specs.declared.decode.DecodeAllocError.{DecodeAllocError}
use Rattle.base64.specs.declared.decode.DecodeAllocError.TheVariants as decoding
use Rattle.argon_text.specs.Grammar.{Fields, is_number}
use Rattle.argon_text.specs.declared.fault.ReadFault.{ReadFault}
use Rattle.argon_text.specs.declared.fault.ReadFault.TheVariants.{NotInGrammar, OutOfRange, OutOfMemory}

infixl 10 ◌>>=◌
-- goes on with what was found
abbrev pub ◌>>=◌ : {A B : Type 0} → Option A → (A → Option B) → Option B
None >>= f = None
(Some x) >>= f = f x

-- what stands after a label
abbrev pub after : List ℕ → List ℕ → Option (List ℕ)
after label s = if bytes_eq (take (length label) s) label then Some (drop (length label) s) else None

-- what stands before and after the first byte `mark`
abbrev pub cut : ℕ → List ℕ → Option (List ℕ × List ℕ)
cut mark s = option_map (λ place. (take place s, drop (place + 1) s)) (position (λ x. x == mark) s)

-- the digits of a number after a label, and what stands after the byte `mark`
unfoldable pub number_at : List ℕ → ℕ → List ℕ → Option (List ℕ × List ℕ)
number_at label mark s = do
  field ← after label s
  split ← cut mark field
  if is_number split.0 then Some split else None

-- the type of a name
abbrev pub kind_named : List ℕ → Option Kind
kind_named name =
    if bytes_eq name (codes "d") then Some D
    else if bytes_eq name (codes "i") then Some I
    else if bytes_eq name (codes "id") then Some Id
    else None

-- the type, and what stands after its `$`
unfoldable pub kind_at : List ℕ → Option (Kind × List ℕ)
kind_at s = do
  named ← after (codes "$argon2") s
  split ← cut 36 named
  kind ← kind_named split.0
  Some (kind, split.1)

-- the digits of the version, where the text has one, and what stands after its `$`
unfoldable pub version_at : List ℕ → Option (Option (List ℕ) × List ℕ)
version_at s =
    if bytes_eq (take 2 s) (codes "v=") then option_map (λ found. (Some found.0, found.1)) (number_at (codes "v=") 36 s)
    else Some (None, s)

-- the fields of a text
unfoldable pub fields_at : List ℕ → Option Fields
fields_at s = do
  kind ← kind_at s
  version ← version_at kind.1
  memory ← number_at (codes "m=") 44 version.1
  passes ← number_at (codes "t=") 44 memory.1
  lanes ← number_at (codes "p=") 36 passes.1
  salt ← cut 36 lanes.1
  Some (record {
    kind = kind.0;
    version = version.0;
    memory = memory.0;
    passes = passes.0;
    lanes = lanes.0;
    salt = salt.0;
    tag = salt.1;
  })

-- ---- what is asked of a source of memory. `decoded` is what a request for the bytes of symbols leaves of it, `true`
-- where memory was granted

-- whether memory was granted to a request with this answer, also one for symbols that are no base64
abbrev pub is_granted : {A : Type 0} → Result A DecodeAllocError → Bool
is_granted (Err decoding.OutOfMemory) = false
is_granted result = true

-- what reading that ends with this fault leaves of the source, by the text's fields: want of memory is told where the
-- bytes of the salt were refused, or, once these were granted, those of the tag; no other fault where any was refused
abbrev pub IsLeftAtFault : {Source : Type 0} → (Source → List ℕ → Bool → Source) → Option Fields → ReadFault → Source → Source → Type 0
IsLeftAtFault decoded None OutOfMemory before after = ⊥
IsLeftAtFault decoded None fault before after = after ≡ before
IsLeftAtFault decoded (Some fields) NotInGrammar before after =
    (after ≡ decoded before fields.salt true) ⊎ (after ≡ decoded (decoded before fields.salt true) fields.tag true)
IsLeftAtFault decoded (Some fields) OutOfRange before after = after ≡ decoded (decoded before fields.salt true) fields.tag true
IsLeftAtFault decoded (Some fields) OutOfMemory before after =
    (after ≡ decoded before fields.salt false) ⊎ (after ≡ decoded (decoded before fields.salt true) fields.tag false)
