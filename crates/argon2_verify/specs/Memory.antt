-- What a run asks of its source of memory: the bytes of the salt, those of the tag, and last one matrix. `decoded` and
-- `matrix` are what a request for either leaves of the source, `true` where it was granted.
use Rattle.std.specs.Prelude.{◌≡◌, ◌⊎◌, ℕ, Bool, true, false, List, Option, Some, None}
use Rattle.argon.specs.Argon2.{Parameters}
use Rattle.argon_text.specs.Grammar.{Fields}
use Rattle.argon_text.specs.Reading.{IsLeftAtFault, fields_at}
use Rattle.argon_text.specs.Value.{Value}
use Rattle.argon_text.specs.Verifying.{parameters_of_value}
use Rattle.argon_text.specs.declared.fault.ReadFault.{ReadFault}
use Rattle.argon2_verify.specs.Hash.{limits_refusal, read_refusal}
use Rattle.argon2_verify.specs.Refusal.{IsNotOutOfMemory}
use Rattle.argon2_verify.specs.declared.refusal.VerifyRefusal.{VerifyRefusal}
use Rattle.argon2_verify.specs.declared.refusal.VerifyRefusal.TheVariants as refusal
use Rattle.argon2_verify.specs.declared.request.Limits.{Limits}

-- the source once the bytes of the salt, and then those of the tag, were granted, by a text's fields
abbrev pub after_text : {Source : Type 0} → (Source → List ℕ → Bool → Source) → Option Fields → Source → Source
after_text decoded None s = s
after_text decoded (Some fields) s = decoded (decoded s fields.salt true) fields.tag true

-- the source once the matrix of a value's hash of a password was asked for, under these limits
abbrev pub after_matrix : {Source : Type 0} → (Source → Parameters → ℕ → ℕ → Bool → Source) → Value → List ℕ → Limits → Bool → Source → Source
after_matrix matrix v password l granted s = matrix s (parameters_of_value v password) l.max_kib l.max_ops granted

-- the source at a refusal of this line, or one before the line was read: want of memory is told only where the bytes of
-- the salt or of the tag were refused
abbrev pub IsLeftWithoutHash : {Source : Type 0} → (Source → List ℕ → Bool → Source) → List ℕ → VerifyRefusal → Source → Source → Type 0
IsLeftWithoutHash decoded line r before after =
    (IsNotOutOfMemory r × (after ≡ before))
    ⊎ ((f : ReadFault) × (r ≡ read_refusal f) × IsLeftAtFault decoded (fields_at line) f before after)

-- the source at a refusal once a value was read: none but that of memory asks for anything, and that is told only where
-- the limits admit the value's hash, and the matrix of a password was refused
abbrev pub IsLeftWithHash : {Source : Type 0} → (Source → Parameters → ℕ → ℕ → Bool → Source) → Value → Limits → VerifyRefusal → Source → Source → Type 0
IsLeftWithHash matrix v l r before after =
    (IsNotOutOfMemory r × (after ≡ before))
    ⊎ ((r ≡ refusal.OutOfMemory) × (limits_refusal l v ≡ None) × ((password : List ℕ) × (after ≡ after_matrix matrix v password l false before)))
