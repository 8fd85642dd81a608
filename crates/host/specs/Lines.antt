-- A line that is said once, at the end of a run that was refused.
use Rattle.std.specs.Prelude.{◌≡◌, Bool, true, false, IsTrue}
use Rattle.host.specs.HostState.{HostState, Text, after_say}
use Rattle.host.specs.Faults.{Faults, with_line_failure_counted}

-- the counts of failures after a line that was said, or that could not be said, where `lines` is one more
abbrev pub faults_after_line : Bool → Faults → Faults
faults_after_line true f = f
faults_after_line false f = with_line_failure_counted f

-- the host after a line that was said, or that could not be said, where nothing changes
abbrev pub after_line : Bool → Text → HostState → HostState
after_line true line s = after_say line s
after_line false line s = s

-- of a host with these counts one line was said, or it could not be said and `lines` rose by one; nothing else has
-- changed
pub record SaysOneLine (tells : Bool) (line : Text) (before after : HostState) (faults_before faults_after : Faults)
    : Type 0 where
  pub said : Bool
  pub counts : faults_after ≡ faults_after_line said faults_before
  pub seen : IsTrue tells → after ≡ after_line said line before
