-- A whole run of scrypt: what stands at its end.
use Rattle.std.specs.Prelude.{◌≡◌, ◌⊎◌, ℕ, Bool, List, Ok, Err, IsOk, IsTrue}
use Rattle.host.specs.Faults.{Faults}
use Rattle.host.specs.Lines.{SaysOneLine}
pub use Rattle.host.specs.HostState.{HostState, Text}
use Rattle.scrypt_request.specs.Refusal.{faults_after_refusal, line_of}
use Rattle.scrypt_request.specs.Request.{Request}
use Rattle.scrypt_run.specs.Run.{ScryptRequestRefused, ScryptRequestSucceeds}
pub use Rattle.scrypt_request.specs.declared.refusal.ScryptRefusal.{ScryptRefusal}
use Rattle.scrypt_request.specs.declared.refusal.ScryptRefusal.TheVariants as refusal
pub use Rattle.scrypt_words.specs.Request.{scrypt_request}

-- the run ended with status 0: it did what its words ask for
pub record Succeeds (words : List Text) (before after : HostState) : Type 0 where
  pub request : Request
  pub asked : scrypt_request words ≡ Ok request
  pub succeeds : ScryptRequestSucceeds request before after

-- the run ended while its words were read, and nothing changed at the host: the words are refused; or the refusal is
-- that of memory, which may come of any words: contracts do not see the heap, so nothing here says that it refused
abbrev pub RefusesCommandLine : ScryptRefusal → List Text → HostState → HostState → Type 0
RefusesCommandLine r words before after = ((scrypt_request words ≡ Err r) ⊎ (r ≡ refusal.OutOfMemory)) × (after ≡ before)

-- the words were accepted, and the run of what they ask for ended with this refusal
pub record RefusesRequest (r : ScryptRefusal) (words : List Text) (before after : HostState) : Type 0 where
  pub request : Request
  pub asked : scrypt_request words ≡ Ok request
  pub refused : ScryptRequestRefused r request before after

-- the run ended with this refusal, before its line is said
abbrev pub IsRefused : ScryptRefusal → List Text → HostState → HostState → Type 0
IsRefused r words before after = RefusesCommandLine r words before after ⊎ RefusesRequest r words before after

-- the run ended with a refusal: of the counts only the one that it names rose, if it names one; then its line was
-- said, or could not be said and `lines` rose. `told` is the refusal, and `unsaid` the host before the line
pub record EndsWithRefusal (tells : Bool) (words : List Text) (before after : HostState) (faults_before faults_after : Faults)
    : Type 0 where
  pub told : ScryptRefusal
  pub unsaid : HostState
  pub says : SaysOneLine tells (line_of told) unsaid after (faults_after_refusal told faults_before) faults_after
  pub refused : IsTrue tells → IsRefused told words before unsaid

-- the refusal of words that is reported, `told`: the one that is due, or that of memory, which may come of any words
-- while they are read
abbrev pub IsDueOrOutOfMemory : ScryptRefusal → ScryptRefusal → Type 0
IsDueOrOutOfMemory told due = (told ≡ due) ⊎ (told ≡ refusal.OutOfMemory)

-- the run did nothing but report the words' refusal, or that of memory: its line was said, or could not be said and
-- `lines` rose; no other count rose. `told` is the refusal, and `due` that of the words
pub record ReportsCommandLineRefusal (tells : Bool) (due : ScryptRefusal) (before after : HostState) (faults_before faults_after : Faults)
    : Type 0 where
  pub told : ScryptRefusal
  pub fits : IsDueOrOutOfMemory told due
  pub says : SaysOneLine tells (line_of told) before after faults_before faults_after

-- the run ended with this status. Of every host, also one that tells nothing: 0 raises no count, and comes of words that are
-- accepted alone; words that are refused come to 1, and to the line of that refusal or of memory. With 0 the run did what its
-- words ask for, and with 1 it said the line of its refusal
pub record EndsWithStatus (tells : Bool) (words : List Text) (status : ℕ) (before after : HostState) (faults_before faults_after : Faults)
    : Type 0 where
  pub counts : status ≡ 0 → faults_after ≡ faults_before
  pub words_accepted : status ≡ 0 → IsOk (scrypt_request words)
  pub words_refused : (due : ScryptRefusal) → scrypt_request words ≡ Err due
      → (status ≡ 1) × ReportsCommandLineRefusal tells due before after faults_before faults_after
  pub succeeds : IsTrue tells → status ≡ 0 → Succeeds words before after
  pub refuses : status ≡ 1 → EndsWithRefusal tells words before after faults_before faults_after
