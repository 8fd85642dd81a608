-- A whole run of argon2-verify: what stands at its end.
use Rattle.std.specs.Prelude.{◌≡◌, ◌⊎◌, ◌+◌, ◌↔◌, ◌≤◌, ℕ, Bool, true, false, List, Some, None, Result, Ok, Err, IsErrOf, IsTrue, MatchResult, length}
use Rattle.argon.specs.Argon2.{Parameters}
use Rattle.argon.specs.Counts.{work}
use Rattle.argon_text.specs.Reading.{fields_at}
use Rattle.argon_text.specs.Value.{Value}
pub use Rattle.argon_text.specs.Verifying.{tag_of_password}
use Rattle.argon_text.specs.Verifying.{parameters_of_value}
use Rattle.host.specs.HostState.{HostState, Text}
use Rattle.host.specs.Faults.{Faults}
use Rattle.host.specs.Lines.{SaysOneLine}
pub use Rattle.argon2_verify.specs.Hash.{Says, limits_refusal}
use Rattle.argon2_verify.specs.Memory.{IsLeftWithHash, IsLeftWithoutHash, after_matrix, after_text}
use Rattle.argon2_verify.specs.Reading.{IsFileRefused, IsPasswordRefused, after_file_read, after_password_asked, hash_line, password_in}
pub use Rattle.argon2_verify.specs.Refusal.{faults_after_refusal, line_of}
pub use Rattle.argon2_verify.specs.Request.{Request, verify_request}
use Rattle.argon2_verify.specs.declared.refusal.VerifyRefusal.{VerifyRefusal}

-- what a password is tested by: what the words ask for; the value that a line says, whose hash the limits admit; and a
-- password of at most 4,096 bytes. On a host that tells its bytes the file is not standard input itself, the line is
-- its first, the password is all of standard input, and so the host is left
pub record Inputs (tells : Bool) (words : List Text) (before after : HostState) : Type 0 where
  pub request : Request
  pub of_words : verify_request words ≡ Ok request
  pub line : List ℕ
  pub value : Value
  pub says : Says line value
  pub admitted : limits_refusal request.limits value ≡ None
  pub password : List ℕ
  pub fits : length password ≤ 4096
  pub apart : IsTrue tells → before.input_is_stdin ≡ false
  pub line_read : IsTrue tells → line ≡ hash_line before.input
  pub password_read : IsTrue tells → password_in before.stdin ≡ Ok password
  pub left : IsTrue tells → after ≡ after_password_asked request.file before

-- the run ended with status 0: the password gives the tag of the value; nothing was said
pub record Verifies (tells : Bool) (words : List Text) (before after : HostState) : Type 0 where
  pub inputs : Inputs tells words before after
  pub same : tag_of_password inputs.value inputs.password ≡ inputs.value.tag

-- the run ended with status 1: the password does not give the tag of the value; nothing was said
pub record Differs (tells : Bool) (words : List Text) (before after : HostState) : Type 0 where
  pub inputs : Inputs tells words before after
  pub other : tag_of_password inputs.value inputs.password ≡ inputs.value.tag → ⊥

-- ---- refusals

-- the words have this refusal, and nothing was asked of the host
abbrev pub RefusesWords : VerifyRefusal → List Text → HostState → HostState → Type 0
RefusesWords r words before after = (verify_request words ≡ Err r) × (after ≡ before)

-- the file that the words name has this refusal
pub record RefusesFile (r : VerifyRefusal) (words : List Text) (before after : HostState) : Type 0 where
  pub request : Request
  pub of_words : verify_request words ≡ Ok request
  pub is : IsFileRefused request.file r before after

-- the limits refuse the hash that the first line of the file says, which is not standard input itself
pub record RefusesLimits (r : VerifyRefusal) (words : List Text) (before after : HostState) : Type 0 where
  pub request : Request
  pub of_words : verify_request words ≡ Ok request
  pub value : Value
  pub apart : before.input_is_stdin ≡ false
  pub says : Says (hash_line before.input) value
  pub is : limits_refusal request.limits value ≡ Some r
  pub left : after ≡ after_file_read request.file before

-- the limits admit it, and the password has this refusal
pub record RefusesPassword (r : VerifyRefusal) (words : List Text) (before after : HostState) : Type 0 where
  pub request : Request
  pub of_words : verify_request words ≡ Ok request
  pub value : Value
  pub apart : before.input_is_stdin ≡ false
  pub says : Says (hash_line before.input) value
  pub admitted : limits_refusal request.limits value ≡ None
  pub is : IsPasswordRefused before.stdin r
  pub left : after ≡ after_password_asked request.file before

-- the run ended with this refusal, before its line is said
abbrev pub IsRefused : VerifyRefusal → List Text → HostState → HostState → Type 0
IsRefused r words before after =
    RefusesWords r words before after
    ⊎ RefusesFile r words before after
    ⊎ RefusesLimits r words before after
    ⊎ RefusesPassword r words before after

-- the run ended with status 2: with a refusal, of the counts only the one that it names rose, if it names one; then its
-- line was said, or could not be said and `lines` rose. `told` is the refusal, and `unsaid` the host before the line
pub record EndsWithRefusal (tells : Bool) (words : List Text) (before after : HostState) (faults_before faults_after : Faults)
    : Type 0 where
  pub told : VerifyRefusal
  pub unsaid : HostState
  pub says : SaysOneLine tells (line_of told) unsaid after (faults_after_refusal told faults_before) faults_after
  pub refused : IsTrue tells → IsRefused told words before unsaid

-- the run ended with this status. Of every host, also one that tells nothing: 0 and 1 raise no count, and words that
-- are refused come to 2 and to the line of that refusal. With 0 the password gives the tag, with 1 it does not, and
-- with 2 the run said the line of its refusal
pub record EndsWithStatus (tells : Bool) (words : List Text) (status : ℕ) (before after : HostState) (faults_before faults_after : Faults)
    : Type 0 where
  pub counts : status ≤ 1 → faults_after ≡ faults_before
  pub words_refused : (due : VerifyRefusal) → verify_request words ≡ Err due
      → (status ≡ 2) × SaysOneLine tells (line_of due) before after (faults_after_refusal due faults_before) faults_after
  pub verifies : status ≡ 0 → Verifies tells words before after
  pub differs : status ≡ 1 → Differs tells words before after
  pub refuses : status ≡ 2 → EndsWithRefusal tells words before after faults_before faults_after

-- a run with this result, on these words and any host: words that have a refusal end it with that
abbrev pub RefusesFaultyWords : {A : Type 0} → List Text → Result A VerifyRefusal → Type 0
RefusesFaultyWords words result = (refusal : VerifyRefusal) → verify_request words ≡ Err refusal → IsErrOf result refusal

-- ---- work and memory

-- the run gave this answer: whether the password gives the tag of the value. The block functions are those of one hash,
-- and the source of memory was asked for what the line needs, and for one matrix
pub record Answers {Source : Type 0} (decoded : Source → List ℕ → Bool → Source) (matrix : Source → Parameters → ℕ → ℕ → Bool → Source)
    (tells : Bool) (words : List Text) (same : Bool) (before after : HostState) (works_before works_after : ℕ)
    (memory_before memory_after : Source) : Type 0 where
  pub inputs : Inputs tells words before after
  pub answer : IsTrue same ↔ (tag_of_password inputs.value inputs.password ≡ inputs.value.tag)
  pub works : works_after ≡ works_before + work (parameters_of_value inputs.value inputs.password)
  pub memory : memory_after ≡ after_matrix matrix inputs.value inputs.password inputs.request.limits true
      (after_text decoded (fields_at inputs.line) memory_before)

-- the source of memory at a refusal once the value of the line was read, under the limits of the words
pub record LeavesMemoryWithHash {Source : Type 0} (decoded : Source → List ℕ → Bool → Source)
    (matrix : Source → Parameters → ℕ → ℕ → Bool → Source) (words : List Text) (line : List ℕ) (r : VerifyRefusal)
    (before after : Source) : Type 0 where
  pub request : Request
  pub of_words : verify_request words ≡ Ok request
  pub value : Value
  pub says : Says line value
  pub left : IsLeftWithHash matrix value request.limits r (after_text decoded (fields_at line) before) after

-- the source of memory at a refusal: want of memory is told only where a request was refused, and no matrix is asked
-- for before every other refusal is ruled out. The line is the first of the file, on a host that tells its bytes
pub record LeavesMemory {Source : Type 0} (decoded : Source → List ℕ → Bool → Source)
    (matrix : Source → Parameters → ℕ → ℕ → Bool → Source) (tells : Bool) (words : List Text) (r : VerifyRefusal)
    (seen : HostState) (before after : Source) : Type 0 where
  pub line : List ℕ
  pub line_read : IsTrue tells → line ≡ hash_line seen.input
  pub left : IsLeftWithoutHash decoded line r before after ⊎ LeavesMemoryWithHash decoded matrix words line r before after

-- the run ended with this refusal, with no block function done: how it left the host, and the source of memory
pub record EndsRefused {Source : Type 0} (decoded : Source → List ℕ → Bool → Source) (matrix : Source → Parameters → ℕ → ℕ → Bool → Source)
    (tells : Bool) (words : List Text) (r : VerifyRefusal) (before after : HostState) (works_before works_after : ℕ)
    (memory_before memory_after : Source) : Type 0 where
  pub refused : IsTrue tells → IsRefused r words before after
  pub no_work : works_after ≡ works_before
  pub memory : LeavesMemory decoded matrix tells words r before memory_before memory_after

-- a run with this result, before the line of a refusal is said: it gave an answer, or was refused
abbrev pub Ends : {Source : Type 0} → (Source → List ℕ → Bool → Source) → (Source → Parameters → ℕ → ℕ → Bool → Source) → Bool → List Text
    → Result Bool VerifyRefusal → HostState → HostState → ℕ → ℕ → Source → Source → Type 0
Ends decoded matrix tells words result before after works_before works_after memory_before memory_after =
    MatchResult result (λ same. Answers decoded matrix tells words same before after works_before works_after memory_before memory_after)
    (λ r. EndsRefused decoded matrix tells words r before after works_before works_after memory_before memory_after)
