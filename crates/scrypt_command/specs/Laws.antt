-- What is proved of the definitions of a whole run of scrypt alone.
use Rattle.std.specs.Prelude.{◌≡◌, ◌<◌, ◌^◌, ◌⊎◌, ℕ, List, Ok, length}
pub use Rattle.romix.specs.Allowance.{Admits}
pub use Rattle.romix.specs.Costs.{IsInRange, Parameters}
use Rattle.host.specs.HostState.{HostState, Text}
pub use Rattle.scrypt_run.specs.Encrypting.{salt_used}
use Rattle.scrypt_run.specs.Laws.{IsRefusedFromOutside as RefusesFromOutside}
pub use Rattle.scrypt_run.specs.Laws.{AreOneEnd, CanBeOpened}
pub use Rattle.scrypt_run.specs.Passphrase.{HasPassphrase, first_line_of_source}
pub use Rattle.scrypt_request.specs.Request.{Encryption, Request, Task, allowance_of, decrypt, encrypt, inspect}
use Rattle.scrypt_request.specs.declared.refusal.ScryptRefusal.{ScryptRefusal}
use Rattle.scrypt_request.specs.declared.refusal.ScryptRefusal.TheVariants as refusal
use Rattle.scrypt_words.specs.Request.{scrypt_request}

-- the words are accepted, and the refusal of what they ask for is one of a failing host or of refused memory
pub record RefusesAcceptedWords (words : List Text) (r : ScryptRefusal) : Type 0 where
  pub request : Request
  pub asked : scrypt_request words ≡ Ok request
  pub outside : RefusesFromOutside request r

-- the refusal is from outside: a growth of memory was refused, or the host failed at what the words ask for
abbrev pub IsRefusedFromOutside : List Text → ScryptRefusal → Type 0
IsRefusedFromOutside words r = (r ≡ refusal.OutOfMemory) ⊎ RefusesAcceptedWords words r

-- the source gives the passphrase, the salt that is given or the host's has 32 bytes, and the limits admit the costs of
-- the new file
pub record CanBeEncrypted (asked : Encryption) (before : HostState) (passphrase : List ℕ) : Type 0 where
  pub given : HasPassphrase (first_line_of_source asked.task.source before) passphrase
  pub salt_has_32_bytes : length (salt_used asked.salt before) ≡ 32
  pub in_range : IsInRange asked.costs
  pub admitted : Admits (allowance_of asked.task) asked.costs
  pub below_limit : length before.input < 2 ^ 60
