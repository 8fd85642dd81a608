-- The refusals that the first 96 bytes of a file give.
use Rattle.encfile.specs.Front.{FrontRefusal}
use Rattle.encfile.specs.Front.FrontRefusal.{KeepAboveN, NotScryptData, WrongPassphrase, UnsupportedVersion, TooMuchMemory, TooMuchWork}
use Rattle.scrypt_request.specs.declared.refusal.ScryptRefusal.{ScryptRefusal}
use Rattle.scrypt_request.specs.declared.refusal.ScryptRefusal.TheVariants as refusal

-- the refusal of the command, by the reason why a file is refused before its text is looked at
abbrev pub refusal_of : FrontRefusal → ScryptRefusal
refusal_of NotScryptData = refusal.NotScryptData
refusal_of UnsupportedVersion = refusal.UnsupportedVersion
refusal_of KeepAboveN = refusal.KeepAboveN
refusal_of TooMuchMemory = refusal.MemoryLimit
refusal_of TooMuchWork = refusal.WorkLimit
refusal_of WrongPassphrase = refusal.WrongPassphrase
