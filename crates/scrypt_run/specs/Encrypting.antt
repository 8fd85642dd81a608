-- `scrypt enc`: what a run comes to.
use Rattle.std.specs.Prelude.{◌≡◌, ◌^◌, ◌⊎◌, ◌==◌, ◌||◌, is_none, ℕ, List, Option, Some, None, option_map, unwrap_or, length, if◌then◌else◌}
use Rattle.romix.specs.Costs.{Parameters}
use Rattle.encfile.specs.EncryptedFile.{IsEncryptionOf, body, encrypted_file}
use Rattle.encfile.specs.Front.{FrontRefusal, allowance_refusal}
use Rattle.host.specs.HostState.{HostState, Text, after_ask_output, after_open_output}
use Rattle.scrypt_run.specs.Passphrase.{HasPassphrase, PassphraseRefused, first_line_of_source}
use Rattle.scrypt_run.specs.Refusal.{refusal_of}
use Rattle.scrypt_request.specs.Request.{Encryption, allowance_of}
use Rattle.scrypt_run.specs.Steps.{after_pull_and_push, after_passphrase_asked}
use Rattle.scrypt_run.specs.Text.{RefusesDuringText}
use Rattle.scrypt_request.specs.declared.refusal.ScryptRefusal.{ScryptRefusal}
use Rattle.scrypt_request.specs.declared.refusal.ScryptRefusal.TheVariants as refusal

-- the salt that the request gives, or the host's where it gives none
abbrev pub salt_used : Option (List ℕ) → HostState → List ℕ
salt_used salt s = unwrap_or salt s.salt

-- the host once there is a salt: it was asked for one where the request gives none
abbrev pub after_salting : Option (List ℕ) → HostState → HostState
after_salting salt s = record s { salted = is_none salt || s.salted }

-- why the costs of the new file are not allowed, if they aren't: by the S and the limits of its task
abbrev pub costs_refusal_of : Encryption → Option FrontRefusal
costs_refusal_of asked = allowance_refusal asked.costs (allowance_of asked.task)

-- what the bytes that were pulled so far of a text of `size` bytes decide of its file: bytes 0 to 95 of the file and
-- the encryption of these bytes; and, where they are the whole text, the final code too, which makes the whole file
abbrev pub decided : List ℕ → List ℕ → Parameters → ℕ → List ℕ → List ℕ
decided passphrase salt costs size text =
    if length text == size then encrypted_file passphrase salt costs text else body passphrase salt costs text

-- the whole input was read, and its file, which is an encryption of it under the passphrase, was written under the
-- output's name
pub record IsEncrypted (passphrase salt : List ℕ) (costs : Parameters) (outfile : Option Text) (before after : HostState)
    : Type 0 where
  pub encryption : IsEncryptionOf (encrypted_file passphrase salt costs before.input) passphrase before.input
  pub written : after ≡ after_pull_and_push (encrypted_file passphrase salt costs) (length before.input) (after_open_output outfile before)

-- ---- the whole run

-- the host after the input was opened, the passphrase's source asked, and a salt asked for where the request gives
-- none
abbrev pub after_salt_asked : Encryption → HostState → HostState
after_salt_asked asked before = after_salting asked.salt (after_passphrase_asked asked.task 0 before)

-- `enc` ends with status 0: the costs are allowed, the passphrase was given, and the file of the input was written
pub record EncryptSucceeds (asked : Encryption) (before after : HostState) : Type 0 where
  pub admitted : costs_refusal_of asked ≡ None
  pub passphrase : List ℕ
  pub given : HasPassphrase (first_line_of_source asked.task.source before) passphrase
  pub encrypted : IsEncrypted passphrase (salt_used asked.salt before) asked.costs asked.task.outfile (after_salt_asked asked before) after

-- `enc` ends with this refusal, by one of these rows: the costs are refused; the input could not be opened; no
-- passphrase; no salt; no memory; no output; the passing of the text ended early, with no more than 4,128 bytes of
-- what was decided missing (a piece of 4,096 and a code of 32). What stands before a `× (` holds for all rows after
-- it: the costs are allowed, and there is a passphrase
abbrev pub EncryptRefused : ScryptRefusal → Encryption → HostState → HostState → Type 0
EncryptRefused r asked before after =
    ((option_map refusal_of (costs_refusal_of asked) ≡ Some r) × (after ≡ before))
    ⊎ ((costs_refusal_of asked ≡ None) × (
    ((r ≡ refusal.InputFault) × (after ≡ before))
    ⊎ (PassphraseRefused r (first_line_of_source asked.task.source before) × (after ≡ after_passphrase_asked asked.task 0 before))
    ⊎ ((passphrase : List ℕ) × HasPassphrase (first_line_of_source asked.task.source before) passphrase × (
    ((r ≡ refusal.SaltFault) × (asked.salt ≡ None) × (after ≡ after_salt_asked asked before))
    ⊎ ((r ≡ refusal.OutOfMemory) × (after ≡ after_salt_asked asked before))
    ⊎ ((r ≡ refusal.OutputFault) × (after ≡ after_ask_output asked.task.outfile (after_salt_asked asked before)))
    ⊎ RefusesDuringText r (2 ^ 60) 4128 (body passphrase (salt_used asked.salt before) asked.costs)
    (decided passphrase (salt_used asked.salt before) asked.costs (length before.input))
    (after_open_output asked.task.outfile (after_salt_asked asked before)) after))))
