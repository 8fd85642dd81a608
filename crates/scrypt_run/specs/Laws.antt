-- What is proved of the definitions of a run alone.
use Rattle.std.specs.Prelude.{◌≡◌, ◌++◌, ◌<◌, ◌^◌, ◌⊎◌, ℕ, List, Option, Some, None, length, ⊤}
use Rattle.romix.specs.Allowance.{Admits}
use Rattle.romix.specs.Costs.{IsInRange, Parameters}
use Rattle.encfile.specs.EncryptedFile.{IsEncryptionOf, encrypted_file}
use Rattle.encfile.specs.Front.{allowance_refusal, format_refusal}
use Rattle.encfile.specs.Header.{costs_of}
use Rattle.host.specs.HostState.{SecretSource, HostState}
use Rattle.scrypt_run.specs.Passphrase.{HasPassphrase, first_line_of_source}
use Rattle.scrypt_request.specs.Request.{Encryption, Request, Task, allowance_of, decrypt, encrypt, inspect}
use Rattle.scrypt_request.specs.declared.refusal.ScryptRefusal.{ScryptRefusal}
use Rattle.scrypt_request.specs.declared.refusal.ScryptRefusal.TheVariants as refusal

-- the input is the file of the text under the passphrase that the source gives, and the limits admit its costs
pub record CanBeOpened (task : Task) (before : HostState) (passphrase salt : List ℕ) (costs : Parameters) (text : List ℕ)
    : Type 0 where
  pub salt_has_32_bytes : length salt ≡ 32
  pub in_range : IsInRange costs
  pub below_limit : length text < 2 ^ 60
  pub input : before.input ≡ encrypted_file passphrase salt costs text
  pub given : HasPassphrase (first_line_of_source task.source before) passphrase
  pub admitted : Admits (allowance_of task) costs

-- the input is an encryption of what was written, under the passphrase that the source gives
pub record WroteWhatWasEncrypted (task : Task) (before after : HostState) : Type 0 where
  pub passphrase : List ℕ
  pub text : List ℕ
  pub given : HasPassphrase (first_line_of_source task.source before) passphrase
  pub encryption : IsEncryptionOf before.input passphrase text
  pub written : after.output ≡ before.output ++ text

-- what was written is an encryption of the input, under the passphrase that the source gives
pub record WroteAnEncryption (asked : Encryption) (before after : HostState) : Type 0 where
  pub passphrase : List ℕ
  pub file : List ℕ
  pub given : HasPassphrase (first_line_of_source asked.task.source before) passphrase
  pub encryption : IsEncryptionOf file passphrase before.input
  pub written : after.output ≡ before.output ++ file

-- the secret source that a request names, if it needs one
abbrev pub source_of_request : Request → Option SecretSource
source_of_request (encrypt asked) = Some asked.task.source
source_of_request (decrypt task) = Some task.source
source_of_request (inspect infile) = None

-- no secret source was asked, or the one that the request names
abbrev pub AsksNoOtherSecretSource : Request → HostState → HostState → Type 0
AsksNoOtherSecretSource request before after = (after.asked ≡ before.asked) ⊎ (after.asked ≡ source_of_request request)

-- the refusal is of memory, or of a host that failed at the input, the output or the passphrase
abbrev pub IsFromOutside : ScryptRefusal → Type 0
IsFromOutside r = (r ≡ refusal.InputFault)
    ⊎ (r ≡ refusal.OutputFault)
    ⊎ (r ≡ refusal.PassphraseFault)
    ⊎ (r ≡ refusal.OutOfMemory)

-- the refusal of this request is from outside: of memory, or of a host that failed at the input, the output or the
-- passphrase, or, for `enc` where no salt is given, at the salt
abbrev pub IsRefusedFromOutside : Request → ScryptRefusal → Type 0
IsRefusedFromOutside (encrypt asked) r = IsFromOutside r ⊎ ((r ≡ refusal.SaltFault) × (asked.salt ≡ None))
IsRefusedFromOutside (decrypt task) r = IsFromOutside r
IsRefusedFromOutside (inspect infile) r = IsFromOutside r

-- two refusals are one end: the same refusal, after which the host is the same; but an input that is too long may be
-- pulled and passed on by pieces of other sizes
pub record AreOneEnd (one other : ScryptRefusal) (after ended : HostState) : Type 0 where
  pub told : one ≡ other
  pub left : (after ≡ ended) ⊎ (one ≡ refusal.TooLong)

-- the request with another S
abbrev pub request_with_keep : ℕ → Request → Request
request_with_keep keep (encrypt asked) = let task : Task = record (asked.task) { keep = keep } in encrypt (record asked { task = task })
request_with_keep keep (decrypt task) = decrypt (record task { keep = keep })
request_with_keep keep (inspect infile) = inspect infile

-- S is at most N and the limits are not exceeded: by the costs of the new file, or by those of the file that is read,
-- where its header is not refused
abbrev pub AdmitsCosts : Request → HostState → Type 0
AdmitsCosts (encrypt asked) s = allowance_refusal asked.costs (allowance_of asked.task) ≡ None
AdmitsCosts (decrypt task) s = format_refusal s.input ≡ None → allowance_refusal (costs_of s.input) (allowance_of task) ≡ None
AdmitsCosts (inspect infile) s = ⊤
