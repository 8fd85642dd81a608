-- What the steps of a run come to.
use Rattle.std.specs.Prelude.{◌≡◌, ◌+◌, ◌↔◌, ◌≤◌, ℕ, Bool, true, false, List, Result, Ok, OnOk, IsTrue, length}
use Rattle.argon.specs.Argon2.{Parameters}
use Rattle.argon.specs.Counts.{work}
use Rattle.argon_text.specs.Reading.{fields_at}
use Rattle.argon_text.specs.Value.{Value}
use Rattle.argon_text.specs.Verifying.{parameters_of_value, tag_of_password}
use Rattle.host.specs.CallsGrantedByHost.{CallsGrantedByHost, GrantsAllButPullsAsBefore, with_input_opened}
use Rattle.host.specs.HostState.{HostState, Text}
use Rattle.argon2_verify.specs.Hash.{Says}
use Rattle.argon2_verify.specs.Memory.{IsLeftWithoutHash, after_matrix, after_text}
use Rattle.argon2_verify.specs.Reading.{IsFileRefused, after_file_read, hash_line, password_in}
use Rattle.argon2_verify.specs.declared.refusal.VerifyRefusal.{VerifyRefusal}
use Rattle.argon2_verify.specs.declared.request.Limits.{Limits}

-- a line was read, and says this value; on a host that tells its bytes it is the first of the file, which is not
-- standard input itself, and so the host is left
pub record ReadsHash {Source : Type 0} (decoded : Source → List ℕ → Bool → Source) (tells : Bool) (file : Text) (before after : HostState)
    (v : Value) (memory_before memory_after : Source) : Type 0 where
  pub line : List ℕ
  pub apart : IsTrue tells → before.input_is_stdin ≡ false
  pub is : IsTrue tells → line ≡ hash_line before.input
  pub left : IsTrue tells → after ≡ after_file_read file before
  pub says : Says line v
  pub memory : memory_after ≡ after_text decoded (fields_at line) memory_before

-- a step with this result, and what the host grants before and after it: where it ends well, every call but a pull is
-- granted as once the input is opened
abbrev pub GrantsAsOpened : {A : Type 0} → Result A VerifyRefusal → CallsGrantedByHost → CallsGrantedByHost → Type 0
GrantsAsOpened result before after = OnOk result (GrantsAllButPullsAsBefore (with_input_opened before) after)

-- the source of memory at a refusal of the file
pub record LeavesMemoryWithoutHash {Source : Type 0} (decoded : Source → List ℕ → Bool → Source) (tells : Bool) (seen : HostState)
    (r : VerifyRefusal) (before after : Source) : Type 0 where
  pub line : List ℕ
  pub is : IsTrue tells → line ≡ hash_line seen.input
  pub left : IsLeftWithoutHash decoded line r before after

-- the file is refused: how that leaves the host, and the source of memory
pub record RefusesHash {Source : Type 0} (decoded : Source → List ℕ → Bool → Source) (tells : Bool) (file : Text) (r : VerifyRefusal)
    (before after : HostState) (memory_before memory_after : Source) : Type 0 where
  pub refused : IsTrue tells → IsFileRefused file r before after
  pub memory : LeavesMemoryWithoutHash decoded tells before r memory_before memory_after

-- a password was read and tested against a value; on a host that tells its bytes it is all of standard input
pub record TestsPassword {Source : Type 0} (matrix : Source → Parameters → ℕ → ℕ → Bool → Source) (tells : Bool) (v : Value) (l : Limits)
    (same : Bool) (before : HostState) (works_before works_after : ℕ) (memory_before memory_after : Source) : Type 0 where
  pub password : List ℕ
  pub fits : length password ≤ 4096
  pub is : IsTrue tells → password_in before.stdin ≡ Ok password
  pub answer : IsTrue same ↔ (tag_of_password v password ≡ v.tag)
  pub works : works_after ≡ works_before + work (parameters_of_value v password)
  pub memory : memory_after ≡ after_matrix matrix v password l true memory_before
