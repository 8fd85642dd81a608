-- What the laws of a run speak of.
use Rattle.argon2_verify.specs.declared.refusal.VerifyRefusal.{VerifyRefusal}
use Rattle.argon2_verify.specs.declared.refusal.VerifyRefusal.TheVariants as refusal

-- the refusal is that of no failing call of the host, and not that of memory: words, file and password decide it
abbrev pub IsFromInside : VerifyRefusal → Type 0
IsFromInside refusal.FileFault = ⊥
IsFromInside refusal.PasswordFault = ⊥
IsFromInside refusal.OutOfMemory = ⊥
IsFromInside r = Unit {0}
