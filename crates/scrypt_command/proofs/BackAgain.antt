-- What `enc` wrote, `dec` gives back.
use Rattle.std.proofs.Common.{◌≡◌, ◌++◌, ◌∙◌, ℕ, List, Ok, ap, subst, sym}
use Rattle.std.proofs.lemmas.List.{append_cancel_left}
use Rattle.romix.specs.Allowance.{Admits}
use Rattle.romix.specs.Costs.{Parameters}
use Rattle.encfile.specs.EncryptedFile.{IsEncryptionOf}
use Rattle.encfile.specs.Header.{costs_of}
use Rattle.encfile.proofs.Files.{costs_of-encrypted_file}
use Rattle.host.specs.HostState.{HostState, Text}
use Rattle.scrypt_run.specs.Laws.{CanBeOpened}
use Rattle.scrypt_run.specs.Passphrase.{HasPassphrase, first_line_of_source}
use Rattle.scrypt_run.proofs.Successes.{wrote_an_encryption}
use Rattle.scrypt_request.specs.Request.{Encryption, Task, allowance_of, decrypt, encrypt}
use Rattle.scrypt_words.specs.Request.{scrypt_request}
use Rattle.scrypt_command.specs.Run.{Succeeds}
use Rattle.scrypt_command.proofs.Existence.{decryption_exists}
use Rattle.scrypt_command.proofs.OtherBytes.{did}

-- an encryption can be opened, where the limits admit the costs that it says
opens : (task : Task) (host : HostState) (passphrase text : List ℕ) (is : IsEncryptionOf host.input passphrase text)
    → HasPassphrase (first_line_of_source task.source host) passphrase → Admits (allowance_of task) (costs_of host.input)
    → CanBeOpened task host passphrase is.salt is.costs text
opens task host passphrase text is given admits = record {
  salt_has_32_bytes = is.salt_has_32_bytes;
  in_range = is.in_range;
  below_limit = is.below_limit;
  input = is.bytes;
  given = given;
  admitted = subst (λ (c : Parameters). Admits (allowance_of task) c)
      (ap costs_of is.bytes ∙ costs_of-encrypted_file passphrase is.salt is.costs text is.in_range) admits;
}

pub back_again : (words others : List Text) (asked : Encryption) (task : Task) (before written later : HostState)
    → scrypt_request words ≡ Ok (encrypt asked) → Succeeds words before written → scrypt_request others ≡ Ok (decrypt task)
    → written.output ≡ before.output ++ later.input
    → first_line_of_source task.source later ≡ first_line_of_source asked.task.source before → Admits (allowance_of task) (costs_of later.input)
    → (after : HostState) × Succeeds others later after × (after.output ≡ later.output ++ before.input)
back_again words others asked task before written later taken done wanted added line admits =
    let wrote = wrote_an_encryption asked before written (did words (encrypt asked) before written taken done) in
    let same : later.input ≡ wrote.file = append_cancel_left before.output later.input wrote.file (sym added ∙ wrote.written) in
    let is : IsEncryptionOf later.input wrote.passphrase before.input =
    subst (λ f. IsEncryptionOf f wrote.passphrase before.input) (sym same) wrote.encryption in
    let given = subst (λ o. HasPassphrase o wrote.passphrase) (sym line) wrote.given in
    decryption_exists others task later wrote.passphrase is.salt is.costs before.input wanted
    (opens task later wrote.passphrase before.input is given admits)
