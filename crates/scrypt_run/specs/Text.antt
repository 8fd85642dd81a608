-- How the passing of a text through a cipher may end early. `gives` says what the bytes that were pulled so far give
-- in all. `decides` says what they decide of the output: the same, and with the last byte of the text perhaps more,
-- such as the final code of a new file.
use Rattle.std.specs.Prelude.{◌≡◌, ◌+◌, ◌-◌, ◌<◌, ◌≤◌, ◌⊎◌, ℕ, List, length, take}
use Rattle.host.specs.HostState.{HostState, after_pull, after_push}
use Rattle.scrypt_run.specs.Steps.{after_pull_and_push}
use Rattle.scrypt_request.specs.declared.refusal.ScryptRefusal.{ScryptRefusal}
use Rattle.scrypt_request.specs.declared.refusal.ScryptRefusal.TheVariants as refusal

-- fewer bytes than the limit were pulled before the input failed, and all that they give was written
pub record FailsReading (limit : ℕ) (gives : List ℕ → List ℕ) (before after : HostState) : Type 0 where
  pub pulled : ℕ
  pub below : pulled < limit
  pub within : pulled ≤ length before.input
  pub passes : after ≡ after_pull_and_push gives pulled before

-- the output failed: fewer bytes than the limit were pulled, and of what they decide a beginning was written, and not
-- the whole; no more than `most` bytes of it are missing
pub record FailsWriting (limit most : ℕ) (decides : List ℕ → List ℕ) (before after : HostState) : Type 0 where
  pub pulled : ℕ
  pub below : pulled < limit
  pub within : pulled ≤ length before.input
  pub written : ℕ
  pub begun : written < length (decides (take pulled before.input))
  pub missing : length (decides (take pulled before.input)) ≤ written + most
  pub passes : after ≡ after_push (take written (decides (take pulled before.input))) (after_pull pulled before)

-- the input reaches the limit: its bytes before the last piece were passed on, and all that they give was written; of
-- the last piece no more was pulled than one buffer of 4,096 bytes
pub record IsTooLong (limit : ℕ) (gives : List ℕ → List ℕ) (before after : HostState) : Type 0 where
  pub handed_on : ℕ
  pub least : limit - 4096 ≤ handed_on
  pub below : handed_on < limit
  pub pulled : ℕ
  pub within : pulled ≤ length before.input
  pub too_long : limit ≤ pulled
  pub most : pulled ≤ handed_on + 4096
  pub passes : after ≡ after_push (gives (take handed_on before.input)) (after_pull pulled before)

-- the passing of a text ended before all that is due was written: the input failed; or the output failed, and no more
-- than `most` bytes of what was decided are missing; or the input reaches the limit
abbrev pub RefusesDuringText : ScryptRefusal → ℕ → ℕ → (List ℕ → List ℕ) → (List ℕ → List ℕ) → HostState → HostState → Type 0
RefusesDuringText r limit most gives decides before after =
    ((r ≡ refusal.InputFault) × FailsReading limit gives before after)
    ⊎ ((r ≡ refusal.OutputFault) × FailsWriting limit most decides before after)
    ⊎ ((r ≡ refusal.TooLong) × IsTooLong limit gives before after)
