-- The system that a run leaves which succeeds, and what is none.
use Rattle.std.proofs.Common.{◌≡◌, ◌≤◌, ◌++◌, ◌∙◌, ℕ, true, false, List, Some, None, Ok, drop, ap, sym, refl}
use Rattle.std.proofs.lemmas.Option.{none-some}
use Rattle.argon.specs.Counts.{work}
use Rattle.argon.specs.Parameters.{block_count}
use Rattle.argon.specs.Range.{IsInRange}
use Rattle.argon2_command.specs.Output.{argon2_command_output, output_line, parameters_of}
use Rattle.argon2_command.proofs.Existence.{after_line, no_other_line, succeeds}
use Rattle.argon2_words.specs.Request.{Request, argon2_request}
use Rattle.argon2_program.specs.Program.{ProgramSucceeds}
use Rattle.host.specs.CallsGrantedByHost.{nothing_asked}
use Rattle.host.specs.Faults.{no_faults}
use Rattle.host.specs.HostState.{HostState, Text, stdin_once}
use Rattle.tools.specs.RunState.{Leaves, RunState, host_over}
use Rattle.tools.specs.SystemState.{SystemState, placeholder_files}

-- the system that read the password from standard input, and wrote this line to standard output
abbrev left_by : List ℕ → SystemState → SystemState
left_by line w = record w {
  secret = record (w.secret) { opened = Some None };
  random = record (w.random) { opened = None };
  output = w.output ++ line;
  output_asked = Some None;
}

-- how far its run has come
abbrev held_at_end : List ℕ → SystemState → RunState
held_at_end line w = record {
  state = left_by line w;
  failures = no_faults;
  system_files = placeholder_files;
  grants = record nothing_asked { writable = true };
  asked = Some stdin_once;
  salted = false;
  told = false;
}

leaves : (line : List ℕ) (w : SystemState) → Leaves (left_by line w) (after_line line (host_over w))
leaves line w = record {
  held = held_at_end line w;
  over = refl;
  same = refl;
  secret = λ other is. is;
  random = λ other is. is;
  unemptied = λ none. absurd (none-some None (sym none));
}

pub program_line : (words : List Text) (request : Request) (password : List ℕ) (before : SystemState) → argon2_request (drop 1 words) ≡ Ok request
    → before.stdin ≡ Some password → IsInRange (parameters_of request password)
    → block_count (parameters_of request password) ≤ request.settings.max_memory_kib → work (parameters_of request password) ≤ request.settings.max_ops
    → (after : SystemState) × ProgramSucceeds words before after
    × (after.output ≡ before.output ++ output_line request password (parameters_of request password))
program_line words request password before taken given range memory few =
    let line = output_line request password (parameters_of request password) in (
      left_by line before,
      record {
        seen = after_line line (host_over before);
        leaves = leaves line before;
        succeeds = succeeds (drop 1 words) request password (host_over before) taken given range memory few;
      },
      refl,
    )

-- the system's output is that which is seen
output_seen : (after : SystemState) (seen : HostState) → Leaves after seen → after.output ≡ seen.output
output_seen after seen left = ap (λ (w : SystemState). w.output) (sym left.over) ∙ ap (λ (s : HostState). s.output) left.same

pub no_other_program_line : (words : List Text) (before after : SystemState) (output : List ℕ)
    → argon2_command_output (drop 1 words) (host_over before) ≡ Ok output → (after.output ≡ before.output ++ output → ⊥)
    → ProgramSucceeds words before after → ⊥
no_other_program_line words before after output due other done =
    no_other_line (drop 1 words) (host_over before) done.seen output due (λ is. other (output_seen after done.seen done.leaves ∙ is)) done.succeeds
