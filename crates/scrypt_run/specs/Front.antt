-- The first 96 bytes of a file: how reading and checking them may end.
use Rattle.std.specs.Prelude.{◌≡◌, ◌<◌, ◌≤◌, ◌⊎◌, ℕ, Option, Some, option_map, length}
use Rattle.encfile.specs.Front.{FrontRefusal}
use Rattle.host.specs.HostState.{HostState, Text}
use Rattle.scrypt_run.specs.Steps.{after_reading_first_bytes}
use Rattle.scrypt_run.specs.Refusal.{refusal_of}
use Rattle.scrypt_request.specs.declared.refusal.ScryptRefusal.{ScryptRefusal}
use Rattle.scrypt_request.specs.declared.refusal.ScryptRefusal.TheVariants as refusal

-- the input was opened, and failed before 96 bytes of it had come
pub record InputFailedBefore96Bytes (infile : Option Text) (before after : HostState) : Type 0 where
  pub pulled : ℕ
  pub few : pulled < 96
  pub within : pulled ≤ length before.input
  pub reads : after ≡ after_reading_first_bytes infile pulled before

-- the input could not be opened, and nothing changed; or it was opened, and failed before 96 bytes of it had come
abbrev pub FrontNotRead : Option Text → HostState → HostState → Type 0
FrontNotRead infile before after = (after ≡ before) ⊎ InputFailedBefore96Bytes infile before after

-- the host after the input was opened and its first 96 bytes were pulled, or all where there are fewer
abbrev pub after_front : Option Text → HostState → HostState
after_front infile s = after_reading_first_bytes infile 96 s

-- the run ended at the first 96 bytes of the input: the input failed; or these bytes were read, and `first` is the
-- reason why they are refused
abbrev pub FrontRefused : ScryptRefusal → Option FrontRefusal → Option Text → HostState → HostState → Type 0
FrontRefused r first infile before after =
    ((r ≡ refusal.InputFault) × FrontNotRead infile before after)
    ⊎ ((option_map refusal_of first ≡ Some r) × (after ≡ after_front infile before))
