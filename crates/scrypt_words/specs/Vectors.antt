-- Words as they are typed, and what they ask for.
use Rattle.std.specs.Prelude.{ℕ, ◌==◌, ◌^◌, List, [], ◌∷◌, Option, None, if◌then◌else◌}
use Rattle.romix.specs.Costs.{Parameters}
use Rattle.host.specs.HostState.{SecretSource, Text}
use Rattle.scrypt_request.specs.Request.{Encryption, Task}

-- the words with one byte more before the first
abbrev pub with_byte : ℕ → List Text → List Text
with_byte byte [] = (byte ∷ []) ∷ []
with_byte byte (word ∷ words) = (byte ∷ word) ∷ words

-- the words of a line, which spaces part
abbrev pub typed : Text → List Text
typed [] = [] ∷ []
typed (byte ∷ bytes) = if byte == 32 then [] ∷ typed bytes else with_byte byte (typed bytes)

-- the limits and S where no word gives them
abbrev pub task_with_default_limits : SecretSource → Option Text → Option Text → Task
task_with_default_limits source infile outfile = record {
  limits = record { max_bytes = 2 ^ 32; max_ops = 2 ^ 33 };
  keep = 1;
  source = source;
  infile = infile;
  outfile = outfile;
}

abbrev pub costs : ℕ → ℕ → ℕ → Parameters
costs log_n r p = record { log_n = log_n; r = r; p = p }

-- the host's salt
abbrev pub encryption_without_salt : Parameters → Task → Encryption
encryption_without_salt c task = record { costs = c; salt = None; task = task }

-- the bytes 0 to 31
abbrev pub salt_of_bytes_0_to_31 : List ℕ
salt_of_bytes_0_to_31 =
    0 ∷ 1 ∷ 2 ∷ 3 ∷ 4 ∷ 5 ∷ 6 ∷ 7 ∷ 8 ∷ 9 ∷ 10 ∷ 11 ∷ 12 ∷ 13 ∷ 14 ∷ 15
    ∷ 16 ∷ 17 ∷ 18 ∷ 19 ∷ 20 ∷ 21 ∷ 22 ∷ 23 ∷ 24 ∷ 25 ∷ 26 ∷ 27 ∷ 28 ∷ 29 ∷ 30 ∷ 31 ∷ []
