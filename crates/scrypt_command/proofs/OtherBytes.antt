-- What is no state after a run with status 0.
use Rattle.std.proofs.Common.{◌≡◌, ◌++◌, ℕ, List, Option, Ok, ap, subst, ◌∙◌}
use Rattle.romix.specs.Costs.{Parameters}
use Rattle.encfile.specs.EncryptedFile.{IsEncryptionOf, encrypted_file}
use Rattle.encfile.specs.Header.{costs_of}
use Rattle.host.specs.HostState.{HostState, Text}
use Rattle.scrypt_run.specs.Encrypting.{EncryptSucceeds, salt_used}
use Rattle.scrypt_run.specs.Inspecting.{costs_line}
use Rattle.scrypt_run.specs.Laws.{CanBeOpened}
use Rattle.scrypt_run.specs.Passphrase.{HasPassphrase, first_line_of_source}
use Rattle.scrypt_run.specs.Run.{ScryptRequestSucceeds}
use Rattle.scrypt_run.proofs.Openings.{one_passphrase, text_is_written, wrote_what_was_encrypted}
use Rattle.scrypt_request.specs.Request.{Encryption, Request, Task, decrypt, encrypt, inspect}
use Rattle.scrypt_words.specs.Request.{scrypt_request}
use Rattle.scrypt_command.specs.Run.{Succeeds}
use Rattle.scrypt_command.proofs.Existence.{take_all}
use Rattle.scrypt_command.proofs.WholeRuns.{same_request}

-- a run with status 0 did what the words ask for
pub did : (words : List Text) (request : Request) (before after : HostState) → scrypt_request words ≡ Ok request → Succeeds words before after
    → ScryptRequestSucceeds request before after
did words request before after asked done =
    subst (λ q. ScryptRequestSucceeds q before after) (same_request words request done.request asked done.asked) done.succeeds

pub no_other_text : (words : List Text) (task : Task) (before after : HostState) (passphrase salt : List ℕ) (costs : Parameters) (text : List ℕ)
    → scrypt_request words ≡ Ok (decrypt task) → CanBeOpened task before passphrase salt costs text
    → (after.output ≡ before.output ++ text → ⊥) → Succeeds words before after → ⊥
no_other_text words task before after passphrase salt costs text asked h other done =
    other (text_is_written task before after passphrase salt costs text h (did words (decrypt task) before after asked done))

pub none_unless_encrypted : (words : List Text) (task : Task) (before after : HostState) → scrypt_request words ≡ Ok (decrypt task)
    → ((passphrase text : List ℕ) → HasPassphrase (first_line_of_source task.source before) passphrase → IsEncryptionOf before.input passphrase text
    → after.output ≡ before.output ++ text → ⊥) → Succeeds words before after → ⊥
none_unless_encrypted words task before after asked other done =
    let wrote = wrote_what_was_encrypted task before after (did words (decrypt task) before after asked done) in
    other wrote.passphrase wrote.text wrote.given wrote.encryption wrote.written

file_written : (asked : Encryption) (before after : HostState) (passphrase : List ℕ) → HasPassphrase (first_line_of_source asked.task.source before) passphrase
    → EncryptSucceeds asked before after
    → after.output ≡ before.output ++ encrypted_file passphrase (salt_used asked.salt before) asked.costs before.input
file_written asked before after passphrase given done =
    ap (λ (s : HostState). s.output) done.encrypted.written
    ∙ ap (λ xs. before.output ++ encrypted_file done.passphrase (salt_used asked.salt before) asked.costs xs) (take_all before.input)
    ∙ ap (λ p. before.output ++ encrypted_file p (salt_used asked.salt before) asked.costs before.input)
    (one_passphrase _ done.passphrase passphrase done.given given)

pub no_other_file : (words : List Text) (asked : Encryption) (before after : HostState) (passphrase : List ℕ)
    → scrypt_request words ≡ Ok (encrypt asked) → HasPassphrase (first_line_of_source asked.task.source before) passphrase
    → (after.output ≡ before.output ++ encrypted_file passphrase (salt_used asked.salt before) asked.costs before.input → ⊥)
    → Succeeds words before after → ⊥
no_other_file words asked before after passphrase taken given other done =
    other (file_written asked before after passphrase given (did words (encrypt asked) before after taken done))

pub no_other_line : (words : List Text) (infile : Option Text) (before after : HostState) → scrypt_request words ≡ Ok (inspect infile)
    → (after.output ≡ before.output ++ costs_line (costs_of before.input) → ⊥) → Succeeds words before after → ⊥
no_other_line words infile before after asked other done =
    other (ap (λ (s : HostState). s.output) (did words (inspect infile) before after asked done).written)
