-- `scrypt dec`: what a run comes to.
use Rattle.std.specs.Prelude.{◌≡◌, ◌+◌, ◌<◌, ◌^◌, ◌++◌, ◌⊎◌, ℕ, List, Option, Some, None, length, option_map, take}
use Rattle.encfile.specs.EncryptedFile.{IsEncryptionOf, released_text}
use Rattle.encfile.specs.Front.{FrontRefusal, front_refusal, file_refusal_before_passphrase}
use Rattle.host.specs.HostState.{HostState, Text, after_ask_output, after_open_output}
use Rattle.scrypt_run.specs.Front.{FrontRefused}
use Rattle.scrypt_run.specs.Passphrase.{HasPassphrase, PassphraseRefused, first_line_of_source}
use Rattle.scrypt_run.specs.Refusal.{refusal_of}
use Rattle.scrypt_request.specs.Request.{Task, allowance_of}
use Rattle.scrypt_run.specs.Steps.{after_pull_and_push, after_passphrase_asked}
use Rattle.scrypt_run.specs.Text.{RefusesDuringText}
use Rattle.scrypt_request.specs.declared.refusal.ScryptRefusal.{ScryptRefusal}
use Rattle.scrypt_request.specs.declared.refusal.ScryptRefusal.TheVariants as refusal

-- ---- after the first 96 bytes: `front` are these, and the input of `before` are the bytes after them

-- the text that a file releases under a passphrase, where `front` is its first 96 bytes and `more` the bytes after
-- these
abbrev pub released_text_of_header_and_rest : List ℕ → List ℕ → List ℕ → List ℕ
released_text_of_header_and_rest passphrase front more = released_text (front ++ more) passphrase

-- the whole input was read, and the text that it releases was written under the output's name; `front` is the first
-- 96 bytes of the file, and the input of `before` the bytes after these
abbrev pub WritesAllDecryptedText : List ℕ → List ℕ → Option Text → HostState → HostState → Type 0
WritesAllDecryptedText passphrase front outfile before after =
    after ≡ after_pull_and_push (released_text_of_header_and_rest passphrase front) (length before.input) (after_open_output outfile before)

-- the whole input was released, and the file is an encryption of what was written; `front` is the first 96 bytes of
-- the file, and the input of `before` the bytes after these
pub record Decrypted (passphrase front : List ℕ) (outfile : Option Text) (before after : HostState) : Type 0 where
  pub released : WritesAllDecryptedText passphrase front outfile before after
  pub genuine : IsEncryptionOf (front ++ before.input) passphrase (released_text (front ++ before.input) passphrase)

-- the whole input was released, the file is shorter than 2^60 + 128 bytes, and it is no encryption of what was
-- written; `front` is the first 96 bytes of the file, and the input of `before` the bytes after these
pub record IsDamaged (passphrase front : List ℕ) (outfile : Option Text) (before after : HostState) : Type 0 where
  pub below_limit : length (front ++ before.input) < 2 ^ 60 + 128
  pub released : WritesAllDecryptedText passphrase front outfile before after
  pub damaged : IsEncryptionOf (front ++ before.input) passphrase (released_text (front ++ before.input) passphrase) → ⊥

-- ---- the whole run

-- why the input is refused whatever the passphrase, if it is: by its header, or by its costs with the S and the
-- limits of the task
abbrev pub input_refusal_before_passphrase : Task → HostState → Option FrontRefusal
input_refusal_before_passphrase task s = file_refusal_before_passphrase s.input (allowance_of task)

-- why the input is refused under the passphrase, if it is: by its header, by its costs with the S and the limits of
-- the task, or by its bytes 64 to 95
abbrev pub front_refusal_of : Task → HostState → List ℕ → Option FrontRefusal
front_refusal_of task s passphrase = front_refusal s.input (allowance_of task) passphrase

-- `dec` ends with status 0: the passphrase was given, nothing refuses the first 96 bytes under it, and the text was
-- written of which the input is an encryption
pub record DecryptSucceeds (task : Task) (before after : HostState) : Type 0 where
  pub passphrase : List ℕ
  pub given : HasPassphrase (first_line_of_source task.source before) passphrase
  pub passes : front_refusal_of task before passphrase ≡ None
  pub decrypted : Decrypted passphrase (take 96 before.input) task.outfile (after_passphrase_asked task 96 before) after

-- `dec` ends with this refusal, by one of these rows: the first 96 bytes were not read, or their header or costs are
-- refused; no passphrase; no memory; a wrong passphrase; no output; the passing of the text ended early, with no more
-- than 4,128 bytes of what was decided missing (a piece of 4,096 and a code of 32); all was released and is damaged.
-- What stands before a `× (` holds for all rows after it: header and costs are not refused, there is a passphrase, and
-- it is the right one
abbrev pub DecryptRefused : ScryptRefusal → Task → HostState → HostState → Type 0
DecryptRefused r task before after =
    FrontRefused r (input_refusal_before_passphrase task before) task.infile before after
    ⊎ ((input_refusal_before_passphrase task before ≡ None) × (
    (PassphraseRefused r (first_line_of_source task.source before) × (after ≡ after_passphrase_asked task 96 before))
    ⊎ ((passphrase : List ℕ) × HasPassphrase (first_line_of_source task.source before) passphrase × (
    ((r ≡ refusal.OutOfMemory) × (after ≡ after_passphrase_asked task 96 before))
    ⊎ ((option_map refusal_of (front_refusal_of task before passphrase) ≡ Some r)
    × (after ≡ after_passphrase_asked task 96 before))
    ⊎ ((front_refusal_of task before passphrase ≡ None) × (
    ((r ≡ refusal.OutputFault) × (after ≡ after_ask_output task.outfile (after_passphrase_asked task 96 before)))
    ⊎ RefusesDuringText r (2 ^ 60 + 32) 4128 (released_text_of_header_and_rest passphrase (take 96 before.input))
    (released_text_of_header_and_rest passphrase (take 96 before.input))
    (after_open_output task.outfile (after_passphrase_asked task 96 before)) after
    ⊎ ((r ≡ refusal.Damaged)
    × IsDamaged passphrase (take 96 before.input) task.outfile (after_passphrase_asked task 96 before) after)))))))
