-- The program scrypt over a system: what stands at its end.
use Rattle.std.specs.Prelude.{◌⊎◌, ◌<◌, Bool, List, drop}
use Rattle.host.specs.Faults.{Faults, no_faults}
use Rattle.host.specs.Lines.{SaysOneLine}
pub use Rattle.host.specs.HostState.{HostState, Text}
use Rattle.scrypt_command.specs.Run.{EndsWithRefusal, Succeeds}
use Rattle.scrypt_request.specs.Refusal.{faults_after_refusal, line_of}
use Rattle.scrypt_request.specs.declared.refusal.ScryptRefusal.TheVariants as refusal
pub use Rattle.tools.specs.RunState.{Leaves, host_over}
use Rattle.tools.specs.Words.{HasNonUtf8WordIfNotText}
pub use Rattle.tools.specs.SystemState.{IsLineAskedUnlessReading, IsOutputSynced, IsOutputUnsynced, SystemState}
use Rattle.tools.specs.declared.arguments.WordsFault.TheVariants as words_fault

-- the program ended with status 0: the run did what the words after its name ask for, and so the system is left; an
-- output that is a regular file or a block device, opened by its name, is on the disk, and of what such a regular file
-- held before nothing is left. `words` are those of the process, of which the first is its name
pub record ProgramSucceeds (words : List Text) (before after : SystemState) : Type 0 where
  pub seen : HostState
  pub leaves : Leaves after seen
  pub succeeds : Succeeds (drop 1 words) (host_over before) seen
  pub output_synced : IsOutputSynced after

-- the run did all that its words ask for, so the output has all of its bytes; but it was asked to be brought to the
-- disk, and was not. Then the line of a failed output was said, or could not be said and `lines` rose. `unsaid` is the
-- host before the line, and `left` the system
pub record FailsSync (tells : Bool) (words : List Text) (before after : HostState) (left : SystemState) (faults : Faults) : Type 0 where
  pub unsaid : HostState
  pub succeeds : Succeeds words before unsaid
  pub says : SaysOneLine tells (line_of refusal.OutputFault) unsaid after (faults_after_refusal refusal.OutputFault no_faults) faults
  pub output_unsynced : IsOutputUnsynced left

-- the program ended with status 1: with the refusal of a run with the words after its name; or one of these is no text;
-- or memory for them was refused, which may come of any words; or the output could not be brought to the disk. In each
-- case its line was said, or could not be said and `lines` rose, though the system was asked for it unless the input or
-- the passphrase's source was opened; and so the system is left. `faults` are the failed calls of the run
pub record ProgramRefuses (tells : Bool) (words : List Text) (before after : SystemState) (faults : Faults) : Type 0 where
  pub seen : HostState
  pub leaves : Leaves after seen
  pub refuses : EndsWithRefusal tells (drop 1 words) (host_over before) seen no_faults faults
      ⊎ (HasNonUtf8WordIfNotText words_fault.NotText words × SaysOneLine tells (line_of refusal.Usage) (host_over before) seen no_faults faults)
      ⊎ SaysOneLine tells (line_of refusal.OutOfMemory) (host_over before) seen no_faults faults
      ⊎ FailsSync tells (drop 1 words) (host_over before) seen after faults
  pub asks : 0 < faults.lines → IsLineAskedUnlessReading after
