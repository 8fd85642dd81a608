-- The system that a run leaves which succeeds.
use Rattle.std.proofs.Common.{◌≡◌, ◌++◌, ◌∙◌, ℕ, Bool, true, false, not, List, Option, Some, None, Ok, drop, length, is_none, sym, refl}
use Rattle.std.proofs.lemmas.Option.{none-some}
use Rattle.romix.specs.Costs.{IsInRange, Parameters}
use Rattle.encfile.specs.EncryptedFile.{encrypted_file}
use Rattle.host.specs.CallsGrantedByHost.{CallsGrantedByHost}
use Rattle.host.specs.Faults.{no_faults}
use Rattle.host.specs.HostState.{HostState, Text}
use Rattle.scrypt_command.specs.Laws.{CanBeEncrypted}
use Rattle.scrypt_command.specs.Run.{Succeeds}
use Rattle.scrypt_command.proofs.Existence.{after_decryption, after_encryption, after_inspection, decryption_succeeds, encryption_succeeds, file_added, inspection_succeeds, line_added, text_added}
use Rattle.scrypt_request.specs.Request.{Encryption, Task, decrypt, encrypt, inspect}
use Rattle.scrypt_run.specs.Encrypting.{salt_used}
use Rattle.scrypt_run.specs.Inspecting.{costs_line}
use Rattle.scrypt_run.specs.Laws.{CanBeOpened}
use Rattle.scrypt_program.specs.Program.{ProgramSucceeds}
use Rattle.scrypt_words.specs.Request.{scrypt_request}
use Rattle.tools.specs.RunState.{Leaves, RunState, host_over, host_seen, name_opened_for_salt, name_opened_for_secret}
use Rattle.tools.specs.SystemState.{Source, SystemState, placeholder_files}

-- whether an output is named
abbrev is_named : Option (Option Text) → Bool
is_named None = false
is_named (Some name) = not (is_none name)

-- a stream that was opened under this name, if under any
abbrev opened_as : Option (Option Text) → Source → Source
opened_as name s = record s { opened = name }

-- the system that a run leaves whose host is seen like this: what is named is on the disk
abbrev left_by : SystemState → HostState → SystemState
left_by w seen = record w {
  input = record { opened = seen.input_opened; left = seen.input; is_ended = true };
  secret = opened_as (name_opened_for_secret seen.asked) w.secret;
  random = opened_as (name_opened_for_salt seen.salted) w.random;
  output = seen.output;
  output_asked = seen.output_asked;
  is_new = true;
  is_kept = is_named seen.output_opened;
  sync_asked = is_named seen.output_opened;
  is_synced = is_named seen.output_opened;
}

abbrev all_granted : CallsGrantedByHost
all_granted = record { input = false; readable = false; output = false; writable = true; secret = false; salt = false }

-- how far its run has come
abbrev held_at_end : SystemState → HostState → RunState
held_at_end w seen = record { state = left_by w seen; failures = no_faults; system_files = placeholder_files; grants = all_granted; asked = seen.asked; salted = seen.salted; told = false }

module _ (words : List Text) (w : SystemState) (seen : HostState) (name : Option Text) (same : host_seen (held_at_end w seen) ≡ seen)
    (opened : seen.output_opened ≡ Some name) (done : Succeeds (drop 1 words) (host_over w) seen) where
  leaves : Leaves (left_by w seen) seen
  leaves = record {
    held = held_at_end w seen;
    over = refl;
    same = same;
    secret = λ other is. is;
    random = λ other is. is;
    unemptied = λ none. absurd (none-some name (sym none ∙ opened));
  }

  program_succeeds : ProgramSucceeds words w (left_by w seen)
  program_succeeds = record {
    seen = seen;
    leaves = leaves;
    succeeds = done;
    output_synced = record { new = refl; synced = λ kept. kept; unasked = λ streamed. streamed };
  }

pub decryption_by_program : (words : List Text) (task : Task) (before : SystemState) (passphrase salt : List ℕ) (costs : Parameters) (text : List ℕ)
    → scrypt_request (drop 1 words) ≡ Ok (decrypt task) → CanBeOpened task (host_over before) passphrase salt costs text
    → (after : SystemState) × ProgramSucceeds words before after × (after.output ≡ before.output ++ text)
decryption_by_program words task before passphrase salt costs text asked h =
    let seen = after_decryption task passphrase (host_over before) in
    let done = decryption_succeeds (drop 1 words) task (host_over before) passphrase salt costs text asked h in (
      left_by before seen,
      program_succeeds words before seen task.outfile refl refl done,
      text_added task (host_over before) passphrase salt costs text h,
    )

pub encryption_by_program : (words : List Text) (asked : Encryption) (before : SystemState) (passphrase : List ℕ)
    → scrypt_request (drop 1 words) ≡ Ok (encrypt asked) → CanBeEncrypted asked (host_over before) passphrase
    → (after : SystemState) × ProgramSucceeds words before after
    × (after.output ≡ before.output ++ encrypted_file passphrase (salt_used asked.salt (host_over before)) asked.costs before.input.left)
encryption_by_program words asked before passphrase taken h =
    let seen = after_encryption asked passphrase (host_over before) in
    let done = encryption_succeeds (drop 1 words) asked (host_over before) passphrase taken h in (
      left_by before seen,
      program_succeeds words before seen asked.task.outfile refl refl done,
      file_added asked (host_over before) passphrase,
    )

pub inspection_by_program : (words : List Text) (infile : Option Text) (before : SystemState) (passphrase salt : List ℕ) (costs : Parameters)
    (text : List ℕ) → scrypt_request (drop 1 words) ≡ Ok (inspect infile) → length salt ≡ 32 → IsInRange costs
    → before.input.left ≡ encrypted_file passphrase salt costs text
    → (after : SystemState) × ProgramSucceeds words before after × (after.output ≡ before.output ++ costs_line costs)
inspection_by_program words infile before passphrase salt costs text asked long range input =
    let seen = after_inspection infile (host_over before) in
    let done = inspection_succeeds (drop 1 words) infile (host_over before) passphrase salt costs text asked long range input in (
      left_by before seen,
      program_succeeds words before seen None refl refl done,
      line_added infile (host_over before) passphrase salt costs text range input,
    )
