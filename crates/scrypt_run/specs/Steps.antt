-- What a run does to a host, step by step.
use Rattle.std.specs.Prelude.{ℕ, List, Option, take}
use Rattle.host.specs.HostState.{HostState, Text, after_ask_secret, after_open_input, after_pull, after_push}
use Rattle.scrypt_request.specs.Request.{Task}

-- the host after the input was opened under this name, and its first n bytes were pulled
abbrev pub after_reading_first_bytes : Option Text → ℕ → HostState → HostState
after_reading_first_bytes infile n s = after_pull n (after_open_input infile s)

-- the host after the input was opened, its first n bytes were pulled, and the passphrase's source was asked: n is 0
-- for `enc`, and 96 for `dec`
abbrev pub after_passphrase_asked : Task → ℕ → HostState → HostState
after_passphrase_asked task n s = after_ask_secret task.source (after_reading_first_bytes task.infile n s)

-- the host after n bytes of the input were pulled, and what `gives` makes of them was written
abbrev pub after_pull_and_push : (List ℕ → List ℕ) → ℕ → HostState → HostState
after_pull_and_push gives n s = after_push (gives (take n s.input)) (after_pull n s)
