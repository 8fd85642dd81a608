-- The state in which a run leaves a host that has what it needs, and what is none.
use Rattle.std.proofs.Common.{◌≡◌, ◌≤◌, ◌++◌, ◌∷◌, ◌∙◌, [], ℕ, ◌*◌, Bool, true, false, List, Some, None, Result, Ok, Err, codes, length, nat_le, ap, sym, subst, refl, arith}
use Rattle.std.specs.Prelude.{◌==◌, if◌then◌else◌}
use Rattle.std.proofs.lemmas.Bool.Decides.{nat_tests}
use Rattle.argon.specs.Argon2.{Parameters}
use Rattle.argon.specs.Counts.{work}
use Rattle.argon.specs.Parameters.{block_count}
use Rattle.argon.specs.Range.{IsInRange, admission, checked_parameters, is_between}
use Rattle.host.specs.HostState.{HostState, Text, after_ask_secret, stdin_once}
use Rattle.host.specs.Output.{after_writing}
use Rattle.argon2_words.specs.Request.{Request, argon2_request}
use Rattle.argon2_words.specs.Settings.{defaults}
use Rattle.argon2_words.specs.declared.items.Form.TheVariants.{Encoded}
use Rattle.argon2_words.specs.declared.refusal.Argon2Refusal.{Argon2Refusal}
use Rattle.argon2_command.specs.Output.{admitted_parameters, argon2_command_output, output_for, output_line, parameters_of, password_in}
use Rattle.argon2_command.specs.Run.{Succeeds, after_password_asked}

-- ---- what is due

password_given : (password : List ℕ) → 1 ≤ length password → length password ≤ 127 → password_in (Some password) ≡ Ok password
password_given password some few =
    let full : (length password == 0) ≡ false = grind (arith, nat_tests, some) in
    let short : nat_le 128 (length password) ≡ false = grind (arith, nat_tests, few) in
    rw (full, short) refl

between : (low n high : ℕ) → low ≤ n → n ≤ high → is_between low n high ≡ true
between low n high above below = grind (arith, nat_tests, above, below)

checked : (p : Parameters) → IsInRange p → checked_parameters p ≡ Ok p
checked p h =
    rw (
      between 1 p.passes 0xFFFFFFFF h.passes (omega (arith, h.passes_end)),
      between 1 p.lanes 0xFFFFFF h.lanes (omega (arith, h.lanes_end)),
      between (8 * p.lanes) p.memory_kib 0xFFFFFFFF h.memory (omega (arith, h.memory_end)),
      between 4 p.tag_len 4096 h.tag_len h.tag_len_end,
      between 8 p.salt_len 255 h.salt_len h.salt_len_end,
      between 1 p.password_len 127 h.password_len h.password_len_end,
    ) refl

admitted : (p : Parameters) (max_kib max_ops : ℕ) → block_count p ≤ max_kib → work p ≤ max_ops → admission p max_kib max_ops ≡ Ok tt
admitted p max_kib max_ops memory few =
    let kib : nat_le (block_count p) max_kib ≡ true = grind (arith, nat_tests, memory) in
    let ops : nat_le (work p) max_ops ≡ true = grind (arith, nat_tests, few) in
    rw (kib, ops) refl

module _ (request : Request) (password : List ℕ) (range : IsInRange (parameters_of request password))
    (memory : block_count (parameters_of request password) ≤ request.settings.max_memory_kib)
    (few : work (parameters_of request password) ≤ request.settings.max_ops) where
  admits : admitted_parameters request password ≡ Ok (parameters_of request password)
  admits =
      rw (
        checked (parameters_of request password) range,
        admitted (parameters_of request password) request.settings.max_memory_kib request.settings.max_ops memory few,
      ) refl

  due : (words : List Text) → argon2_request words ≡ Ok request
      → output_for words (Some password) ≡ Ok (output_line request password (parameters_of request password))
  due words taken = rw (taken, password_given password range.password_len range.password_len_end, admits) refl

-- ---- the state

asked_alone : (asked : Bool) (before : HostState) → (let s : HostState = if asked then after_ask_secret stdin_once before else before in s).output ≡ before.output
asked_alone true before = refl
asked_alone false before = refl

output_of : (words : List Text) (before after : HostState) (output : List ℕ) → after ≡ after_writing None output (after_password_asked words before)
    → after.output ≡ before.output ++ output
output_of words before after output written =
    ap (λ (s : HostState). s.output) written ∙ ap (λ xs. xs ++ output) (asked_alone _ before)

-- a host that was asked for the password, and took this line
abbrev pub after_line : List ℕ → HostState → HostState
after_line line before = after_writing None line (after_ask_secret stdin_once before)

pub succeeds : (words : List Text) (request : Request) (password : List ℕ) (before : HostState) → argon2_request words ≡ Ok request
    → before.stdin ≡ Some password → IsInRange (parameters_of request password)
    → block_count (parameters_of request password) ≤ request.settings.max_memory_kib → work (parameters_of request password) ≤ request.settings.max_ops
    → Succeeds words before (after_line (output_line request password (parameters_of request password)) before)
succeeds words request password before taken given range memory few =
    let line = output_line request password (parameters_of request password) in
    let asked : after_ask_secret stdin_once before ≡ after_password_asked words before = rw taken refl in record {
      output = line;
      due = ap (output_for words) given ∙ due request password range memory few words taken;
      written = ap (after_writing None line) asked;
    }

pub success_exists : (words : List Text) (request : Request) (password : List ℕ) (before : HostState) → argon2_request words ≡ Ok request
    → before.stdin ≡ Some password → IsInRange (parameters_of request password)
    → block_count (parameters_of request password) ≤ request.settings.max_memory_kib → work (parameters_of request password) ≤ request.settings.max_ops
    → (after : HostState) × Succeeds words before after
    × (after.output ≡ before.output ++ output_line request password (parameters_of request password))
success_exists words request password before taken given range memory few = (
  after_line (output_line request password (parameters_of request password)) before,
  succeeds words request password before taken given range memory few,
  refl,
)

abbrev default_request : Request
default_request = record { salt = codes "somesalt"; settings = record defaults { encoded = true }; form = Encoded }

pub some_success : (password : List ℕ) (before : HostState) → 1 ≤ length password → length password ≤ 127 → before.stdin ≡ Some password
    → (after : HostState) × Succeeds (codes "somesalt" ∷ codes "-e" ∷ []) before after
some_success password before some few given =
    let range : IsInRange (parameters_of default_request password) = record {
      kind = omega arith;
      version = refl;
      passes = omega arith;
      passes_end = omega arith;
      lanes = omega arith;
      lanes_end = omega arith;
      memory = omega arith;
      memory_end = omega arith;
      tag_len = omega arith;
      tag_len_end = omega arith;
      salt_len = omega arith;
      salt_len_end = omega arith;
      password_len = some;
      password_len_end = few;
    } in
    let found = success_exists (codes "somesalt" ∷ codes "-e" ∷ []) default_request password before refl given range (omega arith) (omega arith) in
    (found.0, found.1)

-- ---- no other

abbrev ok_or : List ℕ → Result (List ℕ) Argon2Refusal → List ℕ
ok_or other (Ok bytes) = bytes
ok_or other (Err r) = other

abbrev IsDone : Result (List ℕ) Argon2Refusal → Type 0
IsDone (Ok bytes) = Unit {0}
IsDone (Err r) = ⊥

pub no_other_line : (words : List Text) (before after : HostState) (output : List ℕ) → argon2_command_output words before ≡ Ok output
    → (after.output ≡ before.output ++ output → ⊥) → Succeeds words before after → ⊥
no_other_line words before after output due other done =
    let same : done.output ≡ output = ap (ok_or output) (sym done.due ∙ due) in
    other (output_of words before after done.output done.written ∙ ap (λ xs. before.output ++ xs) same)

pub none_if_refused : (words : List Text) (before after : HostState) (r : Argon2Refusal) → argon2_command_output words before ≡ Err r
    → Succeeds words before after → ⊥
none_if_refused words before after r due done = subst IsDone (sym done.due ∙ due) tt
