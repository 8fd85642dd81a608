-- A whole run of argon2: what stands at its end.
use Rattle.std.specs.Prelude.{◌≡◌, ◌≢◌, ◌⊎◌, ◌+◌, ℕ, Bool, List, Option, None, Result, Ok, Err, IfOk, IfErr, IsOk, IsTrue, MatchResult, is_ok, if◌then◌else◌}
use Rattle.host.specs.Output.{IsOutputCutShort, after_writing}
use Rattle.host.specs.HostState.{HostState, Text, after_ask_secret, after_ask_output, stdin_once}
use Rattle.host.specs.Faults.{Faults}
use Rattle.host.specs.Lines.{SaysOneLine}
use Rattle.argon2_words.specs.Refusal.{IsBeforeMemoryAndOutput, IsMemoryOrOutputRefusal, faults_after_refusal, line_of}
pub use Rattle.argon2_words.specs.Request.{argon2_request}
pub use Rattle.argon2_command.specs.Output.{argon2_command_output}
use Rattle.argon2_command.specs.Output.{output_for, request_work}
use Rattle.argon2_words.specs.declared.refusal.Argon2Refusal.{Argon2Refusal}
use Rattle.argon2_words.specs.declared.refusal.Argon2Refusal.TheVariants as refusal

-- the host after the words were read: where they are accepted, standard input was asked for the password, and where
-- they are refused, no source was asked
abbrev pub after_password_asked : List Text → HostState → HostState
after_password_asked words before = if is_ok (argon2_request words) then after_ask_secret stdin_once before else before

-- the run ended with status 0: standard output got the whole output
pub record Succeeds (words : List Text) (before after : HostState) : Type 0 where
  pub output : List ℕ
  pub due : argon2_command_output words before ≡ Ok output
  pub written : after ≡ after_writing None output (after_password_asked words before)

-- the refusal is the one that is due by the words, the password, the parameters or the limits, before memory is asked
-- for
abbrev pub IsRefusedBeforeMemory : Argon2Refusal → List Text → HostState → HostState → Type 0
IsRefusedBeforeMemory r words before after = (argon2_command_output words before ≡ Err r) × IsBeforeMemoryAndOutput r × (after ≡ after_password_asked words before)

-- the words are accepted, and the host failed to give the password
abbrev pub FailsPassword : Argon2Refusal → List Text → HostState → HostState → Type 0
FailsPassword r words before after = (r ≡ refusal.PasswordFault) × IsOk (argon2_request words) × (after ≡ after_password_asked words before)

-- the refusal is that of memory, where no other was due, and before the output was asked for; contracts do not see the
-- heap, so nothing here says that it refused
abbrev pub LacksMemory : Argon2Refusal → List Text → HostState → HostState → Type 0
LacksMemory r words before after = (r ≡ refusal.OutOfMemory) × IsOk (argon2_command_output words before) × (after ≡ after_password_asked words before)

-- no refusal was due, and the host failed to open standard output or to take all of the output
pub record FailsOutput (r : Argon2Refusal) (words : List Text) (before after : HostState) : Type 0 where
  pub is : r ≡ refusal.OutputFault
  pub output : List ℕ
  pub due : argon2_command_output words before ≡ Ok output
  pub left : (after ≡ after_ask_output None (after_password_asked words before))
      ⊎ IsOutputCutShort None output (after_password_asked words before) after

-- the run ended with this refusal, before its line is said
abbrev pub IsRefused : Argon2Refusal → List Text → HostState → HostState → Type 0
IsRefused r words before after =
    IsRefusedBeforeMemory r words before after
    ⊎ FailsPassword r words before after
    ⊎ LacksMemory r words before after
    ⊎ FailsOutput r words before after

-- a run with this result, on these words: where it is refused, so it was, with the host before and after it
abbrev pub EndsRefused : {A : Type 0} → List Text → Result A Argon2Refusal → HostState → HostState → Type 0
EndsRefused words result before after = IfErr result (λ r. IsRefused r words before after)

-- ---- of every host, also one that tells nothing

-- for these words some standard input gives an output
abbrev pub SucceedsForSomeInput : List Text → Type 0
SucceedsForSomeInput words = (stdin : Option (List ℕ)) × IsOk (output_for words stdin)

-- the refusal is one that can be reported for these words: some standard input gives it, or gives an output, where
-- memory or the output can still fail
abbrev pub IsReportedForSomeInput : List Text → Argon2Refusal → Type 0
IsReportedForSomeInput words r = (stdin : Option (List ℕ)) × ((output_for words stdin ≡ Err r) ⊎ (IsMemoryOrOutputRefusal r × IsOk (output_for words stdin)))

-- a run with this result, on these words: some standard input leads to it
abbrev pub EndsSoForSomeInput : {A : Type 0} → List Text → Result A Argon2Refusal → Type 0
EndsSoForSomeInput words result = MatchResult result (λ _. SucceedsForSomeInput words) (IsReportedForSomeInput words)

-- ---- work

-- the count of block functions went on by the work of the words' request
abbrev pub CountsRequestWork : List Text → ℕ → ℕ → Type 0
CountsRequestWork words before after = IfOk (argon2_request words) (λ request. after ≡ before + request_work request)

-- the count before and after a run that ended with this refusal: that of the output comes after the hash, and every
-- other before it
pub record CountsWorkBeforeRefusal (words : List Text) (r : Argon2Refusal) (before after : ℕ) : Type 0 where
  pub no_work : r ≢ refusal.OutputFault → after ≡ before
  pub count : r ≡ refusal.OutputFault → CountsRequestWork words before after

-- a run with this result, on these words, and the count of block functions before and after it
abbrev pub CountsRunWork : {A : Type 0} → List Text → Result A Argon2Refusal → ℕ → ℕ → Type 0
CountsRunWork words result before after =
    MatchResult result (λ _. CountsRequestWork words before after) (λ r. CountsWorkBeforeRefusal words r before after)

-- ---- the end with a refusal

-- the run ended with a refusal: of the counts only the one that it names rose, if it names one; then its line was
-- said, or could not be said and `lines` rose. `told` is the refusal, and `unsaid` the host before the line
pub record EndsWithRefusal (tells : Bool) (words : List Text) (before after : HostState) (faults_before faults_after : Faults)
    : Type 0 where
  pub told : Argon2Refusal
  pub unsaid : HostState
  pub some_input : IsReportedForSomeInput words told
  pub says : SaysOneLine tells (line_of told) unsaid after (faults_after_refusal told faults_before) faults_after
  pub refused : IsTrue tells → IsRefused told words before unsaid

-- the run ended with this status. Of every host, also one that tells nothing: 0 raises no count, and comes of words that are
-- accepted and for which some standard input gives an output alone; words that are refused come to 1 and to the line of that
-- refusal. With 0 standard output got the whole output, and with 1 the run said the line of its refusal
pub record EndsWithStatus (tells : Bool) (words : List Text) (status : ℕ) (before after : HostState) (faults_before faults_after : Faults)
    : Type 0 where
  pub counts : status ≡ 0 → faults_after ≡ faults_before
  pub words_accepted : status ≡ 0 → IsOk (argon2_request words)
  pub words_refused : (due : Argon2Refusal) → argon2_request words ≡ Err due
      → (status ≡ 1) × SaysOneLine tells (line_of due) before after (faults_after_refusal due faults_before) faults_after
  pub some_input : status ≡ 0 → SucceedsForSomeInput words
  pub succeeds : IsTrue tells → status ≡ 0 → Succeeds words before after
  pub refuses : status ≡ 1 → EndsWithRefusal tells words before after faults_before faults_after
