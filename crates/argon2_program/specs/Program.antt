-- The program argon2 over a system: what stands at its end.
use Rattle.std.specs.Prelude.{◌⊎◌, ◌<◌, Bool, List, drop}
use Rattle.host.specs.Faults.{Faults, no_faults}
use Rattle.host.specs.Lines.{SaysOneLine}
use Rattle.host.specs.HostState.{HostState, Text}
use Rattle.argon2_command.specs.Run.{EndsWithRefusal, Succeeds}
use Rattle.argon2_words.specs.Refusal.{line_of}
use Rattle.argon2_words.specs.declared.refusal.Argon2Refusal.TheVariants as refusal
use Rattle.tools.specs.RunState.{Leaves, host_over}
use Rattle.tools.specs.Words.{HasNonUtf8WordIfNotText}
use Rattle.tools.specs.SystemState.{IsLineAskedUnlessReading, SystemState}
use Rattle.tools.specs.declared.arguments.WordsFault.TheVariants as words_fault

-- the program ended with status 0: the run did what the words after its name ask for, and so the system is left. `words`
-- are those of the process, of which the first is its name
pub record ProgramSucceeds (words : List Text) (before after : SystemState) : Type 0 where
  pub seen : HostState
  pub leaves : Leaves after seen
  pub succeeds : Succeeds (drop 1 words) (host_over before) seen

-- the program ended with status 1: with the refusal of a run with the words after its name; or one of these is no text;
-- or memory for them was refused, which may come of any words. In each case its line was said, or could not be said and
-- `lines` rose, though the system was asked for it unless the password's source was opened; and so the system is left.
-- `faults` are the failed calls of the run
pub record ProgramRefuses (tells : Bool) (words : List Text) (before after : SystemState) (faults : Faults) : Type 0 where
  pub seen : HostState
  pub leaves : Leaves after seen
  pub refuses : EndsWithRefusal tells (drop 1 words) (host_over before) seen no_faults faults
      ⊎ (HasNonUtf8WordIfNotText words_fault.NotText words × SaysOneLine tells (line_of refusal.Usage) (host_over before) seen no_faults faults)
      ⊎ SaysOneLine tells (line_of refusal.OutOfMemory) (host_over before) seen no_faults faults
  pub asks : 0 < faults.lines → IsLineAskedUnlessReading after
