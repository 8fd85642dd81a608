-- What there is: hosts that have what a run needs, and for each the state in which it leaves them.
use Rattle.std.proofs.Common.{◌≡◌, ◌≤◌, ◌<◌, ◌+◌, ◌^◌, ◌++◌, ℕ, List, Option, Some, None, Ok, length, take, replicate, ap, sym, subst, refl, ◌∙◌, arith, pow_pos}
use Rattle.std.proofs.lemmas.Option.{none-some}
use Rattle.std.proofs.lemmas.Grind.{common_steps}
use Rattle.romix.specs.Allowance.{Admits, Allowance}
use Rattle.romix.specs.Costs.{IsInRange, Parameters, parts_bytes}
use Rattle.romix.specs.SparseCosts.{cores_bound, sparse_table_bytes}
use Rattle.encfile.specs.EncryptedFile.{IsEncryptionOf, encrypted_file, released_text}
use Rattle.encfile.specs.Front.{FrontRefusal, format_refusal, front_refusal}
use Rattle.encfile.specs.Header.{costs_of}
use Rattle.encfile.proofs.Files.{EncryptionRoundTrips-is, costs_of-encrypted_file}
use Rattle.encfile.proofs.Fronts.{allowance_refusal-admitted, file_refusal_before_passphrase-format, front_refusal-encrypted_file, front_refusal-limits}
use Rattle.host.specs.FirstLine.{first_line}
use Rattle.host.specs.HostState.{HostState, SecretSource, Text, after_open_output, placeholder_host_state}
use Rattle.host.specs.HostState.SecretSource.{env as variable, file as secret_file, stdin_once}
use Rattle.host.specs.Output.{after_writing}
use Rattle.scrypt_run.specs.Decrypting.{DecryptSucceeds, released_text_of_header_and_rest}
use Rattle.scrypt_run.specs.Encrypting.{EncryptSucceeds, after_salt_asked, salt_used}
use Rattle.scrypt_run.specs.Front.{after_front}
use Rattle.scrypt_run.specs.Inspecting.{costs_line, costs_line_of_input}
use Rattle.scrypt_run.specs.Laws.{CanBeOpened}
use Rattle.scrypt_run.specs.Passphrase.{first_line_of_source}
use Rattle.scrypt_run.specs.Steps.{after_passphrase_asked, after_pull_and_push}
use Rattle.scrypt_run.proofs.Openings.{both_parts, text_is_written}
use Rattle.scrypt_request.specs.Request.{Encryption, Task, allowance_of, decrypt, encrypt, inspect}
use Rattle.scrypt_words.specs.Request.{scrypt_request}
use Rattle.scrypt_command.specs.Laws.{CanBeEncrypted}
use Rattle.scrypt_command.specs.Run.{Succeeds}

-- ---- dec

abbrev pub after_decryption : Task → List ℕ → HostState → HostState
after_decryption task passphrase before =
    let asked = after_passphrase_asked task 96 before in
    after_pull_and_push (released_text_of_header_and_rest passphrase (take 96 before.input)) (length asked.input) (after_open_output task.outfile asked)

module _ (task : Task) (before : HostState) (passphrase salt : List ℕ) (costs : Parameters) (text : List ℕ)
    (h : CanBeOpened task before passphrase salt costs text) where
  is_encryption : IsEncryptionOf before.input passphrase (released_text before.input passphrase)
  is_encryption =
      let back = EncryptionRoundTrips-is passphrase salt costs text h.salt_has_32_bytes h.in_range h.below_limit in
      subst (λ f. IsEncryptionOf f passphrase (released_text f passphrase)) (sym h.input)
      (subst (λ t. IsEncryptionOf (encrypted_file passphrase salt costs text) passphrase t) (sym back.released) back.encryption)

  decrypts : DecryptSucceeds task before (after_decryption task passphrase before)
  decrypts = record {
    passphrase = passphrase;
    given = h.given;
    passes = ap (λ f. front_refusal f (allowance_of task) passphrase) h.input
        ∙ front_refusal-encrypted_file passphrase salt costs text (allowance_of task) h.salt_has_32_bytes h.in_range h.admitted;
    decrypted = record {
      released = refl;
      genuine = subst (λ f. IsEncryptionOf f passphrase (released_text f passphrase)) (sym (both_parts 96 before.input)) is_encryption;
    };
  }

pub decryption_succeeds : (words : List Text) (task : Task) (before : HostState) (passphrase salt : List ℕ) (costs : Parameters) (text : List ℕ)
    → scrypt_request words ≡ Ok (decrypt task) → CanBeOpened task before passphrase salt costs text
    → Succeeds words before (after_decryption task passphrase before)
decryption_succeeds words task before passphrase salt costs text asked h = record {
  request = decrypt task;
  asked = asked;
  succeeds = decrypts task before passphrase salt costs text h;
}

pub text_added : (task : Task) (before : HostState) (passphrase salt : List ℕ) (costs : Parameters) (text : List ℕ)
    → CanBeOpened task before passphrase salt costs text → (after_decryption task passphrase before).output ≡ before.output ++ text
text_added task before passphrase salt costs text h =
    text_is_written task before (after_decryption task passphrase before) passphrase salt costs text h (decrypts task before passphrase salt costs text h)

pub decryption_exists : (words : List Text) (task : Task) (before : HostState) (passphrase salt : List ℕ) (costs : Parameters) (text : List ℕ)
    → scrypt_request words ≡ Ok (decrypt task) → CanBeOpened task before passphrase salt costs text
    → (after : HostState) × Succeeds words before after × (after.output ≡ before.output ++ text)
decryption_exists words task before passphrase salt costs text asked h = (
  after_decryption task passphrase before,
  decryption_succeeds words task before passphrase salt costs text asked h,
  text_added task before passphrase salt costs text h,
)

-- ---- enc

abbrev pub after_encryption : Encryption → List ℕ → HostState → HostState
after_encryption asked passphrase before =
    let salted = after_salt_asked asked before in
    after_pull_and_push (encrypted_file passphrase (salt_used asked.salt before) asked.costs) (length before.input) (after_open_output asked.task.outfile salted)

encrypts : (asked : Encryption) (before : HostState) (passphrase : List ℕ) → CanBeEncrypted asked before passphrase
    → EncryptSucceeds asked before (after_encryption asked passphrase before)
encrypts asked before passphrase h = record {
  admitted = allowance_refusal-admitted asked.costs (allowance_of asked.task) h.admitted;
  passphrase = passphrase;
  given = h.given;
  encrypted = record {
    encryption = (EncryptionRoundTrips-is passphrase (salt_used asked.salt before) asked.costs before.input h.salt_has_32_bytes h.in_range h.below_limit).encryption;
    written = refl;
  };
}

pub take_all : (xs : List ℕ) → take (length xs) xs ≡ xs
take_all xs = grind (arith, common_steps)

pub encryption_succeeds : (words : List Text) (asked : Encryption) (before : HostState) (passphrase : List ℕ)
    → scrypt_request words ≡ Ok (encrypt asked) → CanBeEncrypted asked before passphrase
    → Succeeds words before (after_encryption asked passphrase before)
encryption_succeeds words asked before passphrase taken h = record {
  request = encrypt asked;
  asked = taken;
  succeeds = encrypts asked before passphrase h;
}

pub file_added : (asked : Encryption) (before : HostState) (passphrase : List ℕ)
    → (after_encryption asked passphrase before).output
    ≡ before.output ++ encrypted_file passphrase (salt_used asked.salt before) asked.costs before.input
file_added asked before passphrase =
    ap (λ xs. before.output ++ encrypted_file passphrase (salt_used asked.salt before) asked.costs xs) (take_all before.input)

pub encryption_exists : (words : List Text) (asked : Encryption) (before : HostState) (passphrase : List ℕ)
    → scrypt_request words ≡ Ok (encrypt asked) → CanBeEncrypted asked before passphrase
    → (after : HostState) × Succeeds words before after
    × (after.output ≡ before.output ++ encrypted_file passphrase (salt_used asked.salt before) asked.costs before.input)
encryption_exists words asked before passphrase taken h = (
  after_encryption asked passphrase before,
  encryption_succeeds words asked before passphrase taken h,
  file_added asked before passphrase,
)

-- ---- info

not_refused : (file : List ℕ) (allowed : Allowance) (passphrase : List ℕ) (first : Option FrontRefusal) → format_refusal file ≡ first
    → front_refusal file allowed passphrase ≡ None → first ≡ None
not_refused file allowed passphrase None is passes = refl
not_refused file allowed passphrase (Some r) is passes =
    absurd (none-some r (sym passes ∙ front_refusal-limits file allowed passphrase r (file_refusal_before_passphrase-format file allowed r is)))

-- what admits these costs
abbrev room_for : Parameters → Allowance
room_for c = record {
  limits = record {
    max_bytes = sparse_table_bytes (record { costs = c; keep = 1 }) + parts_bytes c;
    max_ops = cores_bound (record { costs = c; keep = 1 });
  };
  keep = 1;
}

one_is_least : (n : ℕ) → 1 ≤ 2 ^ n
one_is_least n = omega (arith, pow_pos n)

is_admitted : (c : Parameters) → Admits (room_for c) c
is_admitted c = record {
  keep = one_is_least c.log_n;
  memory = record { table = omega arith; parts = omega arith };
  work = omega arith;
}

has_header : (passphrase salt : List ℕ) (costs : Parameters) (text : List ℕ) → length salt ≡ 32 → IsInRange costs
    → format_refusal (encrypted_file passphrase salt costs text) ≡ None
has_header passphrase salt costs text long range =
    not_refused (encrypted_file passphrase salt costs text) (room_for costs) passphrase _ refl
    (front_refusal-encrypted_file passphrase salt costs text (room_for costs) long range (is_admitted costs))

abbrev pub after_inspection : Option Text → HostState → HostState
after_inspection infile before = after_writing None (costs_line_of_input before) (after_front infile before)

pub inspection_succeeds : (words : List Text) (infile : Option Text) (before : HostState) (passphrase salt : List ℕ) (costs : Parameters) (text : List ℕ)
    → scrypt_request words ≡ Ok (inspect infile) → length salt ≡ 32 → IsInRange costs → before.input ≡ encrypted_file passphrase salt costs text
    → Succeeds words before (after_inspection infile before)
inspection_succeeds words infile before passphrase salt costs text asked long range input = record {
  request = inspect infile;
  asked = asked;
  succeeds = record {
    valid = ap format_refusal input ∙ has_header passphrase salt costs text long range;
    written = refl;
  };
}

pub line_added : (infile : Option Text) (before : HostState) (passphrase salt : List ℕ) (costs : Parameters) (text : List ℕ) → IsInRange costs
    → before.input ≡ encrypted_file passphrase salt costs text
    → (after_inspection infile before).output ≡ before.output ++ costs_line costs
line_added infile before passphrase salt costs text range input =
    ap (λ (c : Parameters). before.output ++ costs_line c) (ap costs_of input ∙ costs_of-encrypted_file passphrase salt costs text range)

pub inspection_exists : (words : List Text) (infile : Option Text) (before : HostState) (passphrase salt : List ℕ) (costs : Parameters) (text : List ℕ)
    → scrypt_request words ≡ Ok (inspect infile) → length salt ≡ 32 → IsInRange costs → before.input ≡ encrypted_file passphrase salt costs text
    → (after : HostState) × Succeeds words before after × (after.output ≡ before.output ++ costs_line costs)
inspection_exists words infile before passphrase salt costs text asked long range input = (
  after_inspection infile before,
  inspection_succeeds words infile before passphrase salt costs text asked long range input,
  line_added infile before passphrase salt costs text range input,
)

-- ---- hosts

-- a host whose sources all give this passphrase
abbrev host_with : List ℕ → List ℕ → List ℕ → HostState
host_with input passphrase salt = record placeholder_host_state {
  input = input;
  stdin = Some passphrase;
  variables = λ _. Some passphrase;
  files = λ _. Some passphrase;
  salt = salt;
}

gives : (source : SecretSource) (input passphrase salt : List ℕ) → first_line passphrase ≡ passphrase
    → first_line_of_source source (host_with input passphrase salt) ≡ Some passphrase
gives stdin_once input passphrase salt one_line = ap Some one_line
gives (variable name) input passphrase salt one_line = ap Some one_line
gives (secret_file name) input passphrase salt one_line = ap Some one_line

pub openable_host : (task : Task) (passphrase salt : List ℕ) (costs : Parameters) (text : List ℕ) → first_line passphrase ≡ passphrase
    → length passphrase ≤ 2048 → length salt ≡ 32 → IsInRange costs → Admits (allowance_of task) costs → length text < 2 ^ 60
    → (before : HostState) × CanBeOpened task before passphrase salt costs text
openable_host task passphrase salt costs text one_line short long range admits below = (
  host_with (encrypted_file passphrase salt costs text) passphrase salt,
  record {
    salt_has_32_bytes = long;
    in_range = range;
    below_limit = below;
    input = refl;
    given = record { is = gives task.source (encrypted_file passphrase salt costs text) passphrase salt one_line; fits = short };
    admitted = admits;
  },
)

long_salt : (given : Option (List ℕ)) (input passphrase : List ℕ) → ((salt : List ℕ) → given ≡ Some salt → length salt ≡ 32)
    → length (salt_used given (host_with input passphrase (replicate 32 7))) ≡ 32
long_salt None input passphrase h = refl
long_salt (Some salt) input passphrase h = h salt refl

pub encryptable_host : (asked : Encryption) (passphrase text : List ℕ) → first_line passphrase ≡ passphrase → length passphrase ≤ 2048
    → ((salt : List ℕ) → asked.salt ≡ Some salt → length salt ≡ 32) → IsInRange asked.costs → Admits (allowance_of asked.task) asked.costs
    → length text < 2 ^ 60 → (before : HostState) × CanBeEncrypted asked before passphrase × (before.input ≡ text)
encryptable_host asked passphrase text one_line short long range admits below = (
  host_with text passphrase (replicate 32 7),
  record {
    given = record { is = gives asked.task.source text passphrase (replicate 32 7) one_line; fits = short };
    salt_has_32_bytes = long_salt asked.salt text passphrase long;
    in_range = range;
    admitted = admits;
    below_limit = below;
  },
  refl,
)
