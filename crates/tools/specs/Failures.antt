-- How often the calls of a system have failed, and whether the faults of a run are such failures.
use Rattle.std.specs.Prelude.{◌≡◌, ◌≤◌, ◌==◌, ℕ, ◌+◌, None, Result, OnErr, OnOk, if◌then◌else◌}
use Rattle.host.specs.Faults.{Faults, with_input_failure_counted, with_line_failure_counted, with_output_failure_counted, with_salt_failure_counted, with_secret_failure_counted}
use Rattle.tools.specs.SystemState.{Files, HasSeparateErrorStream, IsOutputSeparate, SystemState}
use Rattle.tools.specs.declared.system.Reading.{Reading}
use Rattle.tools.specs.declared.system.Reading.TheVariants as reading
use Rattle.tools.specs.declared.system.StreamRole.{StreamRole}
use Rattle.tools.specs.declared.system.StreamRole.TheVariants as stream

-- the counts with one failure more to open or to read this stream
abbrev pub with_read_failure_counted : Reading → Faults → Faults
with_read_failure_counted reading.Input f = with_input_failure_counted f
with_read_failure_counted reading.Secret f = with_secret_failure_counted f
with_read_failure_counted reading.Random f = with_salt_failure_counted f

-- how often it failed to open or to read this stream
abbrev pub read_failure_count : Reading → Faults → ℕ
read_failure_count reading.Input f = f.input
read_failure_count reading.Secret f = f.secrets
read_failure_count reading.Random f = f.salt

-- the counts after a read that gave n bytes: where that are none, random bytes, which have no end, have failed
abbrev pub after_read_counted : Reading → ℕ → Faults → Faults
after_read_counted reading.Input n f = f
after_read_counted reading.Secret n f = f
after_read_counted reading.Random n f = if n == 0 then with_salt_failure_counted f else f

-- the counts after a write that took n bytes: where that are none, it has failed
abbrev pub after_write_counted : ℕ → Faults → Faults
after_write_counted n f = if n == 0 then with_output_failure_counted f else f

-- the counts with one failure more to say which file this stream is: of the output or of the line. Of what is read that
-- is asked for both, and so counts for both
abbrev pub with_file_failure_counted : StreamRole → Faults → Faults
with_file_failure_counted stream.Input f = with_output_failure_counted (with_line_failure_counted f)
with_file_failure_counted stream.Secret f = with_output_failure_counted (with_line_failure_counted f)
with_file_failure_counted stream.Output f = with_output_failure_counted f
with_file_failure_counted stream.Error f = with_line_failure_counted f

-- a call with this outcome, and a count before and after it: it is one more after a fault
pub record AddsFault {A E : Type 0} (outcome : Result A E) (before after : ℕ) : Type 0 where
  pub ok : OnOk outcome (after ≡ before)
  pub err : OnErr outcome (after ≡ before + 1)

-- no kind of call has failed less often than before
pub record AreNoFewer (before after : Faults) : Type 0 where
  pub input : before.input ≤ after.input
  pub output : before.output ≤ after.output
  pub secrets : before.secrets ≤ after.secrets
  pub salt : before.salt ≤ after.salt
  pub lines : before.lines ≤ after.lines

-- the faults of a host over a system, which is left like this and whose calls have failed so often, are no more than
-- such failures; but for an input, a secret or a salt that was asked for too late, when an output had been, and for an
-- output that is one of the files that are read
pub record AreFaultsOfHost (counts failures : Faults) (w : SystemState) (f : Files) : Type 0 where
  pub input : (w.input.opened ≡ None → w.output_asked ≡ None) → counts.input ≤ failures.input
  pub output : ((w.output_asked ≡ None → ⊥) → IsOutputSeparate f) → counts.output ≤ failures.output
  pub secrets : w.output_asked ≡ None → counts.secrets ≤ failures.secrets
  pub salt : w.output_asked ≡ None → counts.salt ≤ failures.salt

-- the lines that could not be said are no more than such failures; but where standard error is one of the files that are
-- read
abbrev pub AreLinesWithinFailures : Faults → Faults → Files → Type 0
AreLinesWithinFailures counts failures f = HasSeparateErrorStream f → counts.lines ≤ failures.lines

-- the faults of a program over a system whose calls have failed so often, and of whose streams these are the files, are no
-- more than such failures; but for an output, or a standard error, that is one of the files that are read
pub record AreFaultsWithinFailures (counts failures : Faults) (f : Files) : Type 0 where
  pub input : counts.input ≤ failures.input
  pub output : IsOutputSeparate f → counts.output ≤ failures.output
  pub secrets : counts.secrets ≤ failures.secrets
  pub salt : counts.salt ≤ failures.salt
  pub lines : AreLinesWithinFailures counts failures f
