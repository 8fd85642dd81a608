-- What the steps of `enc` may come to: to each its rows of `EncryptRefused`.
use Rattle.std.specs.Prelude.{◌≡◌, ◌^◌, ◌⊎◌, Bool, ℕ, List, [], Option, None, Result, IfOk, IsTrue, MatchResult, length}
use Rattle.romix.specs.Costs.{Parameters}
use Rattle.romix.specs.SparseCosts.{CostsAndKeep}
use Rattle.encfile.specs.EncryptedFile.{body}
pub use Rattle.encfile.specs.Encrypting.{HasEncrypted}
use Rattle.encfile.specs.declared.enc.Enc.{Enc}
use Rattle.host.specs.HostState.{HostState, Text, after_ask_output, after_ask_secret, after_open_output}
use Rattle.scrypt_run.specs.Encrypting.{IsEncrypted, after_salting, decided, salt_used}
use Rattle.scrypt_run.specs.Inside.Steps.{CountsOneDerivation}
use Rattle.scrypt_run.specs.Passphrase.{HasPassphrase, PassphraseRefused, first_line_of_source}
use Rattle.scrypt_request.specs.Request.{Encryption}
use Rattle.scrypt_run.specs.Text.{RefusesDuringText}
use Rattle.scrypt_request.specs.declared.refusal.ScryptRefusal.{ScryptRefusal}
use Rattle.scrypt_request.specs.declared.refusal.ScryptRefusal.TheVariants as refusal

-- ---- the salt

-- a step with this result, and the host before and after it: a salt was asked for where none is given, and the one
-- that is given, or else the host's, is used
pub record UsesSalt (salt : Option (List ℕ)) (result : Result (List ℕ) ScryptRefusal) (before after : HostState) : Type 0 where
  pub asks : after ≡ after_salting salt before
  pub used : IfOk result (λ used. used ≡ salt_used salt before)

-- the host gave no salt, and none is given
abbrev pub SaltRefused : Option (List ℕ) → ScryptRefusal → Type 0
SaltRefused salt r = (r ≡ refusal.SaltFault) × (salt ≡ None)

-- ---- the start

-- the encryption was started, of no text yet, for a passphrase and a salt; where the host tells its bytes, these are
-- the first line of the source, and the salt that was asked for or the host's
pub record IsStarted (tells : Bool) (asked : Encryption) (before after : HostState) (enc : Enc) : Type 0 where
  pub passphrase : List ℕ
  pub salt : List ℕ
  pub begun : HasEncrypted enc passphrase salt asked.costs []
  pub given : IsTrue tells → HasPassphrase (first_line_of_source asked.task.source before) passphrase
  pub salted : IsTrue tells → salt ≡ salt_used asked.salt before
  pub asks : IsTrue tells → after ≡ after_salting asked.salt (after_ask_secret asked.task.source before)

-- no passphrase; or no salt or no memory, once the salt was asked for where none is given
abbrev pub StartRefused : ScryptRefusal → Encryption → HostState → HostState → Type 0
StartRefused r asked before after =
    (PassphraseRefused r (first_line_of_source asked.task.source before) × (after ≡ after_ask_secret asked.task.source before))
    ⊎ ((after ≡ after_salting asked.salt (after_ask_secret asked.task.source before))
    × ((passphrase : List ℕ) × HasPassphrase (first_line_of_source asked.task.source before) passphrase)
    × (SaltRefused asked.salt r ⊎ (r ≡ refusal.OutOfMemory)))

-- the counter went on by one derivation with these costs and this S, of the passphrase and the salt of an encryption
abbrev pub CountsStart : Bool → Encryption → CostsAndKeep → HostState → ℕ → ℕ → Type 0
CountsStart tells asked sparse s before after =
    CountsOneDerivation tells (first_line_of_source asked.task.source s) (salt_used asked.salt s) sparse before after

-- ---- from the output's opening on

-- an encryption of which no text was encrypted yet, for the file of a passphrase, a salt and costs
abbrev pub IsBegun : Enc → Type 0
IsBegun enc = (passphrase salt : List ℕ) × (costs : Parameters) × HasEncrypted enc passphrase salt costs []

-- the run ended from the output's opening on
abbrev pub EncryptRefusedFromOutputOn : ScryptRefusal → List ℕ → List ℕ → Parameters → Option Text → HostState → HostState → Type 0
EncryptRefusedFromOutputOn r passphrase salt costs outfile before after =
    ((r ≡ refusal.OutputFault) × (after ≡ after_ask_output outfile before))
    ⊎ RefusesDuringText r (2 ^ 60) 4128 (body passphrase salt costs) (decided passphrase salt costs (length before.input)) (after_open_output outfile before) after

-- a step with this result, and the host before and after it: the file of the whole input was written; or the run was
-- refused from the output's opening on
abbrev pub EncryptionEnds : {A : Type 0} → Result A ScryptRefusal → List ℕ → List ℕ → Parameters → Option Text → HostState → HostState → Type 0
EncryptionEnds result passphrase salt costs outfile before after = MatchResult result
    (λ _. IsEncrypted passphrase salt costs outfile before after)
    (λ r. EncryptRefusedFromOutputOn r passphrase salt costs outfile before after)
