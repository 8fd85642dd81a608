use Rattle.std.proofs.Common.{◌≡◌, ◌≤◌, ◌-◌, IsTrue, false, length, take}
use Rattle.host.specs.CallsGrantedByHost.{with_input_opened}
use Rattle.argon2_verify.specs.Reading.{after_reading, hash_line}
use Rattle.argon2_verify.proofs.hash.read_line.Given as goal

-- so many bytes came, and none of them ends the line
abbrev pub invariant-loop-len : goal.invariant-loop-len
invariant-loop-len g l =
    let before = g.H.Host.seen l.fn.host in record {
      fits : l.len ≤ 8192;
      apart : IsTrue g.H.Host.tells → before.input_is_stdin ≡ false;
      grants : g.H.Host.grants l.host ≡ with_input_opened (g.H.Host.grants l.fn.host);
      same : g.H.Host.faults l.host ≡ g.H.Host.faults l.fn.host;
      within : IsTrue g.H.Host.tells → l.len ≤ length (hash_line before.input);
      bytes : IsTrue g.H.Host.tells → take l.len l.buf ≡ take l.len before.input;
      taken : IsTrue g.H.Host.tells → g.H.Host.seen l.host ≡ after_reading l.fn.file l.len before;
    }

abbrev pub decreases-loop-len : goal.decreases-loop-len
decreases-loop-len g l = 8192 - l.len
