-- What the words of scrypt ask for, or the first refusal that they meet. Each step of a `do` block finds a value or is
-- refused, so the order of the steps is that of the refusals.
use Rattle.std.specs.Prelude.{◌≡◌, ◌⊎◌, ℕ, ◌+◌, ◌^◌, Bool, true, false, ◌&&◌, ◌||◌, List, [], ◌∷◌, Option, Some, None, Result, Ok, Err, IfOk, IfErr, ok_or, is_some, codes, count_by, length, drop, nat_eq, nat_lt, if◌then◌else◌}
use Rattle.std.specs.List.{starts_with}
use Rattle.std.specs.Option.{option_eq, option_map_or}
use Rattle.std.specs.Result.{result_ok}
use Rattle.std.specs.Str.{bytes_eq}
use Rattle.clap.specs.Words.{Row, first_of as argument_value}
use Rattle.hex.specs.Hex.{decode_sized}
use Rattle.romix.specs.Costs.{Parameters}
use Rattle.romix.specs.Faults.{cost_fault}
use Rattle.romix.specs.SparseCosts.{is_valid_keep}
use Rattle.romix.specs.declared.limits.Limits.{Limits}
use Rattle.host.specs.HostState.{SecretSource, Text, env, file, stdin_once}
pub use Rattle.command_words.specs.Answer.{◌>>=◌, map_ok}
pub use Rattle.command_words.specs.Number.{number_in, number_of}
use Rattle.scrypt_request.specs.Request.{Encryption, Request, Task, encrypt, decrypt, inspect, scrypt_request_view}
use Rattle.scrypt_words.specs.Words.{is_set, scrypt_words}
use Rattle.scrypt_request.specs.declared.refusal.ScryptRefusal.{ScryptRefusal}
use Rattle.scrypt_request.specs.declared.request.Request.{Request as RequestInCode}
use Rattle.scrypt_request.specs.declared.refusal.ScryptRefusal.TheVariants as refusal

-- ---- the file, the numbers and the limits: S1

-- the word for infile, which has to be there (S1)
abbrev pub required_infile : List Row → Result Text ScryptRefusal
required_infile rows = ok_or (argument_value (codes "infile") rows) refusal.Usage

-- the name of the input by the word for infile; `-` is standard input
abbrev pub infile_named : Text → Option Text
infile_named word = if bytes_eq word (codes "-") then None else Some word

-- the number that the option `name` gives, whose value `read` reads, or `default` without the option (S1)
abbrev pub number_from_words : Text → (Text → Option ℕ) → ℕ → List Row → Result ℕ ScryptRefusal
number_from_words name read default rows = ok_or (option_map_or read (argument_value name rows) (Some default)) refusal.Usage

-- the limits: -M in bytes, 1 to 2^40, and --maxops in Salsa20/8 cores, 1 to 2^63 - 1; 2^32 and 2^33 without the
-- options (S1)
abbrev pub limits_from_words : List Row → Result Limits ScryptRefusal
limits_from_words rows = do
  max_bytes ← number_from_words (codes "M") (number_in 1 (2 ^ 40 + 1)) (2 ^ 32) rows
  max_ops ← number_from_words (codes "maxops") (number_in 1 (2 ^ 63)) (2 ^ 33) rows
  Ok (record { max_bytes = max_bytes; max_ops = max_ops })

-- ---- the costs: S1, S2a, S2b

-- whether one or two of the three costs are given
abbrev pub has_some_but_not_all_costs : List Row → Bool
has_some_but_not_all_costs rows =
    let given = count_by (λ name. is_some (argument_value name rows)) (codes "logN" ∷ codes "r" ∷ codes "p" ∷ []) in
    nat_lt 0 given && nat_lt given 3

-- the costs, log2 N, r and p, which are 17, 8 and 1 without the options (S1, S2a, S2b)
abbrev pub costs_from_words : List Row → Result Parameters ScryptRefusal
costs_from_words rows = do
  log_n ← number_from_words (codes "logN") number_of 17 rows
  r ← number_from_words (codes "r") number_of 8 rows
  p ← number_from_words (codes "p") number_of 1 rows
  if has_some_but_not_all_costs rows then Err refusal.SomeCosts
      else if is_some (cost_fault log_n r p) then Err refusal.CostsOutOfRange
      else Ok (record { log_n = log_n; r = r; p = p })

-- ---- the passphrase's source: S2c, S2d, S3

-- whether a text is `prefix` and then a name that is not empty
abbrev pub has_name_after : Text → Text → Bool
has_name_after prefix text = starts_with nat_eq text prefix && nat_lt (length prefix) (length text)

-- the secret source that the value of --passphrase names, if it names one
abbrev pub source_named : Text → Option SecretSource
source_named text =
    if bytes_eq text (codes "dev:stdin-once") then Some stdin_once
    else if has_name_after (codes "env:") text then Some (env (drop 4 text))
    else if has_name_after (codes "file:") text then Some (file (drop 5 text))
    else None

-- the one source of the passphrase: standard input by -P, or what --passphrase names, and not both
abbrev pub one_source : Bool → Option Text → Option SecretSource
one_source true None = Some stdin_once
one_source false (Some text) = source_named text
one_source _ _ = None

-- whether the passphrase is asked from standard input
abbrev pub wants_stdin : List Row → Bool
wants_stdin rows =
    is_set (codes "P") rows || option_eq bytes_eq (argument_value (codes "passphrase") rows) (Some (codes "dev:stdin-once"))

-- the source of the passphrase: standard input is not asked for both the input and the passphrase (S2c), outfile has
-- another name than infile (S2d), and there is one source (S3)
abbrev pub source_from_words : Text → List Row → Result SecretSource ScryptRefusal
source_from_words infile rows =
    if bytes_eq infile (codes "-") && wants_stdin rows then Err refusal.StandardInputTwice
    else if option_eq bytes_eq (argument_value (codes "outfile") rows) (Some infile) then Err refusal.SameName
    else ok_or (one_source (is_set (codes "P") rows) (argument_value (codes "passphrase") rows)) refusal.PassphraseSource

-- ---- the salt: S5a

-- the 32 bytes that a text of 64 hexadecimal digits writes, in either case; None of any other text
abbrev pub salt_from_hex : Text → Option (List ℕ)
salt_from_hex text = result_ok (decode_sized text 32)

-- the salt that --salt gives; None without it (S5a)
abbrev pub salt_from_words : Option Text → Result (Option (List ℕ)) ScryptRefusal
salt_from_words None = Ok None
salt_from_words (Some text) = map_ok Some (ok_or (salt_from_hex text) refusal.SaltDigits)

-- ---- S: S16a

-- S, the number of --keep, if it is a power of two from 1 to 1,024 (S16a)
abbrev pub checked_keep : ℕ → Result ℕ ScryptRefusal
checked_keep number = if is_valid_keep number then Ok number else Err refusal.KeepOutOfRange

-- ---- the request, step by step: the first refusal decides

-- the task that enc and dec both have, of what their words ask for
abbrev pub task_of : Text → Limits → SecretSource → ℕ → List Row → Task
task_of infile limits source keep rows = record {
  limits = limits;
  keep = keep;
  source = source;
  infile = infile_named infile;
  outfile = argument_value (codes "outfile") rows;
}

-- what the words of enc ask for, or the first refusal in the order of the lines
abbrev pub encryption_from_words : List Row → Result Encryption ScryptRefusal
encryption_from_words rows = do
  infile ← required_infile rows
  limits ← limits_from_words rows
  number ← number_from_words (codes "keep") number_of 1 rows
  costs ← costs_from_words rows
  source ← source_from_words infile rows
  salt ← salt_from_words (argument_value (codes "salt") rows)
  keep ← checked_keep number
  Ok (record { costs = costs; salt = salt; task = task_of infile limits source keep rows })

-- what the words of dec ask for, or the first refusal in the order of the lines
abbrev pub decryption_from_words : List Row → Result Task ScryptRefusal
decryption_from_words rows = do
  infile ← required_infile rows
  limits ← limits_from_words rows
  number ← number_from_words (codes "keep") number_of 1 rows
  source ← source_from_words infile rows
  keep ← checked_keep number
  Ok (task_of infile limits source keep rows)

-- what the words of a subcommand ask for, by its name and what its arguments have
abbrev pub request_of_subcommand : Text → List Row → Result Request ScryptRefusal
request_of_subcommand name rows =
    if bytes_eq name (codes "enc") then map_ok encrypt (encryption_from_words rows)
    else if bytes_eq name (codes "dec") then map_ok decrypt (decryption_from_words rows)
    else if bytes_eq name (codes "info") then map_ok (λ infile. inspect (infile_named infile)) (required_infile rows)
    else Err refusal.Usage

-- what the words of scrypt ask for, or the first refusal: S1 where clap finds a fault in them, then that of the
-- subcommand
abbrev pub scrypt_request : List Text → Result Request ScryptRefusal
scrypt_request words = do
  said ← ok_or (scrypt_words words) refusal.Usage
  request_of_subcommand said.0 said.1

-- with this result the words are read: they ask for this request; or they have this refusal, or it is that of memory
pub record ReadsWords (words : List Text) (result : Result RequestInCode ScryptRefusal) : Type 0 where
  pub request : IfOk result (λ asked. scrypt_request words ≡ Ok (scrypt_request_view asked))
  pub refused : IfErr result (λ told. (scrypt_request words ≡ Err told) ⊎ (told ≡ refusal.OutOfMemory))
