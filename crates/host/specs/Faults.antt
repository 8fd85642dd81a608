-- How often the calls of a host have failed.
use Rattle.std.specs.Prelude.{◌≡◌, ◌+◌, ◌<◌, ℕ, Result, OnOk, OnErr}

-- how many calls of each kind failed: `open_input`, `input_is_stdin` and `pull`, `open_output` and `push`, `secret`,
-- `salt`, `say`
pub record Faults : Type 0 where
  pub input : ℕ
  pub output : ℕ
  pub secrets : ℕ
  pub salt : ℕ
  pub lines : ℕ

-- the counts with one failure of the input more
abbrev pub with_input_failure_counted : Faults → Faults
with_input_failure_counted f = record f { input = f.input + 1 }

-- the counts with one failure of the output more
abbrev pub with_output_failure_counted : Faults → Faults
with_output_failure_counted f = record f { output = f.output + 1 }

-- the counts with one failure of a secret source more
abbrev pub with_secret_failure_counted : Faults → Faults
with_secret_failure_counted f = record f { secrets = f.secrets + 1 }

-- the counts with one failure of the salt more
abbrev pub with_salt_failure_counted : Faults → Faults
with_salt_failure_counted f = record f { salt = f.salt + 1 }

-- the counts with one line more that could not be said
abbrev pub with_line_failure_counted : Faults → Faults
with_line_failure_counted f = record f { lines = f.lines + 1 }

-- each of the five counts is below n
pub record AreBelow (n : ℕ) (f : Faults) : Type 0 where
  pub input : f.input < n
  pub output : f.output < n
  pub secrets : f.secrets < n
  pub salt : f.salt < n
  pub lines : f.lines < n

-- the counts of a host where nothing failed yet
abbrev pub no_faults : Faults
no_faults = record { input = 0; output = 0; secrets = 0; salt = 0; lines = 0 }

-- a call with this result, and the counts before and after it: one that succeeds counts no failure
abbrev pub CountsNoFailure : {A E : Type 0} → Result A E → Faults → Faults → Type 0
CountsNoFailure result before after = OnOk result (after ≡ before)

-- a call of this kind with this result, and the counts before and after it: one that fails counts one more of its kind
abbrev pub CountsFailure : {A E : Type 0} → (Faults → Faults) → Result A E → Faults → Faults → Type 0
CountsFailure failed result before after = OnErr result (after ≡ failed before)
