-- Two refusals of a request are one end, or one is from outside: the others are decided by the request and the host.
use Rattle.std.proofs.Common.{◌≡◌, ◌<◌, ◌≤◌, ◌+◌, ◌-◌, ◌^◌, ◌⊎◌, inl, inr, ℕ, List, Option, Some, None, ap, drop, take, length, option_map, refl, sym, subst, true, false, ◌∙◌, arith}
use Rattle.std.specs.Prelude.{if◌then◌else◌, nat_lt}
use Rattle.std.proofs.lemmas.Bool.Decides.{nat_tests}
use Rattle.std.proofs.lemmas.List.{length-drop}
use Rattle.std.proofs.lemmas.Option.{none-some, same_Some}
use Rattle.encfile.specs.Front.{FrontRefusal, format_refusal}
use Rattle.host.specs.HostState.{HostState, Text, after_open_output}
use Rattle.scrypt_run.specs.Decrypting.{DecryptRefused, front_refusal_of, input_refusal_before_passphrase, released_text_of_header_and_rest}
use Rattle.scrypt_run.specs.Encrypting.{EncryptRefused, costs_refusal_of}
use Rattle.scrypt_run.specs.Front.{FrontRefused, after_front}
use Rattle.scrypt_run.specs.Inside.Decrypting.{DecryptRefusedFromOutputOn}
use Rattle.scrypt_run.specs.Inspecting.{InspectRefused}
use Rattle.scrypt_run.specs.Laws.{AreOneEnd, IsFromOutside, IsRefusedFromOutside}
use Rattle.scrypt_run.specs.Passphrase.{HasPassphrase, PassphraseRefused, first_line_of_source}
use Rattle.scrypt_run.specs.Refusal.{refusal_of}
use Rattle.scrypt_request.specs.Request.{Encryption, Request, Task, allowance_of, decrypt, encrypt, inspect}
use Rattle.scrypt_run.specs.Run.{ScryptRequestRefused}
use Rattle.scrypt_run.specs.Steps.{after_pull_and_push, after_passphrase_asked}
use Rattle.scrypt_run.specs.Text.{RefusesDuringText}
use Rattle.scrypt_request.specs.declared.refusal.ScryptRefusal.{ScryptRefusal}
use Rattle.scrypt_request.specs.declared.refusal.ScryptRefusal.TheVariants as refusal
use Rattle.scrypt_run.proofs.Openings.{both_parts, limits_pass}
use Rattle.scrypt_run.proofs.Successes.{line_from_outside}

-- ---- what may refuse a request from inside

-- the refusal, and the state that the run is left in, where there is one such state
record Inside : Type 0 where
  refusal : ScryptRefusal
  end : Option HostState

abbrev inside : ScryptRefusal → Option HostState → Inside
inside r end = record { refusal = r; end = end }

-- by the first test of a front that holds, or else the next
abbrev by_front : Option FrontRefusal → HostState → Option Inside → Option Inside
by_front (Some first) at next = Some (inside (refusal_of first) (Some at))
by_front None at next = next

-- by the length of the passphrase's line, or else under this passphrase
abbrev by_line : Option (List ℕ) → HostState → (List ℕ → Option Inside) → Option Inside
by_line None at next = None
by_line (Some line) at next = if nat_lt 2048 (length line) then Some (inside refusal.LongPassphrase (Some at)) else next line

-- by the length of a file whose first 96 bytes are right: it is refused from inside as damaged or as too long
abbrev by_length : ℕ → HostState → Inside
by_length n released = if nat_lt n (2 ^ 60 + 128) then inside refusal.Damaged (Some released) else inside refusal.TooLong None

-- the whole text of a file was released
abbrev all_released : Task → HostState → List ℕ → HostState
all_released task s passphrase =
    let asked = after_passphrase_asked task 96 s in
    after_pull_and_push (released_text_of_header_and_rest passphrase (take 96 s.input)) (length asked.input) (after_open_output task.outfile asked)

-- of `enc`, once the limits admit the costs; under a passphrase a text is refused from inside as too long alone
abbrev of_text : Encryption → HostState → Option Inside
of_text asked s = by_line (first_line_of_source asked.task.source s) (after_passphrase_asked asked.task 0 s) (λ _. Some (inside refusal.TooLong None))

-- of `dec`, once there is a passphrase
abbrev under_passphrase : Task → HostState → List ℕ → Option Inside
under_passphrase task s passphrase =
    by_front (front_refusal_of task s passphrase) (after_passphrase_asked task 96 s)
    (Some (by_length (length s.input) (all_released task s passphrase)))

-- of `dec`, once the limits admit the file
abbrev of_file : Task → HostState → Option Inside
of_file task s = by_line (first_line_of_source task.source s) (after_passphrase_asked task 96 s) (under_passphrase task s)

-- the one end of a request that may come from inside, if any may
abbrev from_inside : Request → HostState → Option Inside
from_inside (encrypt asked) s = by_front (costs_refusal_of asked) s (of_text asked s)
from_inside (decrypt task) s = by_front (input_refusal_before_passphrase task s) (after_front task.infile s) (of_file task s)
from_inside (inspect infile) s = by_front (format_refusal s.input) (after_front infile s) None

-- ---- what each test comes to

front_told : (first : Option FrontRefusal) (at : HostState) (next : Option Inside) (r : ScryptRefusal) → option_map refusal_of first ≡ Some r
    → by_front first at next ≡ Some (inside r (Some at))
front_told None at next r told = absurd (none-some r told)
front_told (Some first) at next r told = ap (λ x. Some (inside x (Some at))) (same_Some (refusal_of first) r told)

front_passed : (first : Option FrontRefusal) (at : HostState) (next : Option Inside) → first ≡ None → by_front first at next ≡ next
front_passed first at next none = ap (λ f. by_front f at next) none

line_too_long : (line : Option (List ℕ)) (at : HostState) (next : List ℕ → Option Inside) (long : List ℕ) → line ≡ Some long → 2048 < length long
    → by_line line at next ≡ Some (inside refusal.LongPassphrase (Some at))
line_too_long line at next long is longer =
    let test : nat_lt 2048 (length long) ≡ true = grind (arith, nat_tests, longer) in
    ap (λ l. by_line l at next) is ∙ rw test refl

line_passed : (line : Option (List ℕ)) (at : HostState) (next : List ℕ → Option Inside) (passphrase : List ℕ) → HasPassphrase line passphrase
    → by_line line at next ≡ next passphrase
line_passed line at next passphrase given =
    let test : nat_lt 2048 (length passphrase) ≡ false = grind (arith, nat_tests, given.fits) in
    ap (λ l. by_line l at next) given.is ∙ rw test refl

length_too_long : (n : ℕ) (released : HostState) → 2 ^ 60 + 128 ≤ n → by_length n released ≡ inside refusal.TooLong None
length_too_long n released long =
    let test : nat_lt n (2 ^ 60 + 128) ≡ false = grind (arith, nat_tests, long) in
    rw test refl

length_damaged : (n : ℕ) (released : HostState) → n < 2 ^ 60 + 128 → by_length n released ≡ inside refusal.Damaged (Some released)
length_damaged n released short =
    let test : nat_lt n (2 ^ 60 + 128) ≡ true = grind (arith, nat_tests, short) in
    rw test refl

-- ---- a refusal is from outside, or is the one from inside

-- the run is left in this state; where there are several, its input was too long
abbrev FitsEnd : Option HostState → ScryptRefusal → HostState → Type 0
FitsEnd (Some end) r after = after ≡ end
FitsEnd None r after = r ≡ refusal.TooLong

-- the refusal is due, and the run is left in the state that is due
record IsRefusedBeforeMemory (due : Option Inside) (r : ScryptRefusal) (after : HostState) : Type 0 where
  end : Option HostState
  is : due ≡ Some (inside r end)
  fits : FitsEnd end r after

-- at a step: the refusal is from outside, or is this one
abbrev OutsideOr : Option Inside → ScryptRefusal → HostState → Type 0
OutsideOr due r after = IsFromOutside r ⊎ IsRefusedBeforeMemory due r after

-- the steps before passed
due_later : (r : ScryptRefusal) (after : HostState) (all next : Option Inside) → all ≡ next → IsRefusedBeforeMemory next r after → IsRefusedBeforeMemory all r after
due_later r after all next same h = record { end = h.end; is = same ∙ h.is; fits = h.fits }

later : (r : ScryptRefusal) (after : HostState) (all next : Option Inside) → all ≡ next → OutsideOr next r after → OutsideOr all r after
later r after all next same (inl outside) = inl outside
later r after all next same (inr due) = inr (due_later r after all next same due)

told_as : (r due : ScryptRefusal) (end : Option HostState) → r ≡ due → inside due end ≡ inside r end
told_as r due end is = ap (λ x. inside x end) (sym is)

due_at : (due : Option Inside) (r : ScryptRefusal) (at after : HostState) → due ≡ Some (inside r (Some at)) → after ≡ at → IsRefusedBeforeMemory due r after
due_at due r at after is same = record { end = Some at; is = is; fits = same }

front_refused : (first : Option FrontRefusal) (infile : Option Text) (before after : HostState) (r : ScryptRefusal) (next : Option Inside)
    → FrontRefused r first infile before after → OutsideOr (by_front first (after_front infile before) next) r after
front_refused first infile before after r next (inl failed) = inl (inl failed.0)
front_refused first infile before after r next (inr told) =
    inr (due_at _ r (after_front infile before) after (front_told first (after_front infile before) next r told.0) told.1)

passphrase_refused : (line : Option (List ℕ)) (at after : HostState) (r : ScryptRefusal) (next : List ℕ → Option Inside) → after ≡ at
    → PassphraseRefused r line → OutsideOr (by_line line at next) r after
passphrase_refused line at after r next same (inl failed) = inl (inr (inr (inl failed)))
passphrase_refused line at after r next same (inr (is, long, line_is, longer)) =
    inr (due_at _ r at after (line_too_long line at next long line_is longer ∙ ap Some (told_as r refusal.LongPassphrase (Some at) is)) same)

-- ---- of `enc`

abbrev EncryptDecided : Encryption → HostState → ScryptRefusal → HostState → Type 0
EncryptDecided asked s r after = IsRefusedFromOutside (encrypt asked) r ⊎ IsRefusedBeforeMemory (from_inside (encrypt asked) s) r after

encrypt_decided : (asked : Encryption) (s : HostState) (r : ScryptRefusal) (after : HostState) → OutsideOr (from_inside (encrypt asked) s) r after
    → EncryptDecided asked s r after
encrypt_decided asked s r after (inl outside) = inl (inl outside)
encrypt_decided asked s r after (inr due) = inr due

-- the costs are admitted
to_text : (asked : Encryption) (s : HostState) → costs_refusal_of asked ≡ None → from_inside (encrypt asked) s ≡ of_text asked s
to_text asked s admitted = front_passed (costs_refusal_of asked) s (of_text asked s) admitted

-- the text's passing ended early
text_ended : (asked : Encryption) (before after : HostState) (r : ScryptRefusal) (passphrase : List ℕ) (gives decides : List ℕ → List ℕ) (s : HostState)
    → costs_refusal_of asked ≡ None → HasPassphrase (first_line_of_source asked.task.source before) passphrase
    → RefusesDuringText r (2 ^ 60) 4128 gives decides s after → EncryptDecided asked before r after
text_ended asked before after r passphrase gives decides s admitted given (inl reading) = inl (inl (inl reading.0))
text_ended asked before after r passphrase gives decides s admitted given (inr (inl writing)) = inl (inl (inr (inl writing.0)))
text_ended asked before after r passphrase gives decides s admitted given (inr (inr long)) =
    let passed = line_passed (first_line_of_source asked.task.source before) (after_passphrase_asked asked.task 0 before) _ passphrase given in
    inr (due_later r after _ (Some (inside refusal.TooLong None)) (to_text asked before admitted ∙ passed)
    (record { end = None; is = ap Some (told_as r refusal.TooLong None long.0); fits = long.0 }))

encrypt_refused : (asked : Encryption) (before after : HostState) (r : ScryptRefusal) → EncryptRefused r asked before after → EncryptDecided asked before r after
encrypt_refused asked before after r (inl told) =
    inr (due_at _ r before after (front_told (costs_refusal_of asked) before (of_text asked before) r told.0) told.1)
encrypt_refused asked before after r (inr (admitted, inl failed)) = inl (inl (inl failed.0))
encrypt_refused asked before after r (inr (admitted, inr (inl refused))) =
    encrypt_decided asked before r after
    (later r after _ (of_text asked before) (to_text asked before admitted)
    (passphrase_refused (first_line_of_source asked.task.source before) (after_passphrase_asked asked.task 0 before) after r _ refused.1 refused.0))
encrypt_refused asked before after r (inr (admitted, inr (inr (passphrase, given, inl failed)))) = inl (inr (failed.0, failed.1))
encrypt_refused asked before after r (inr (admitted, inr (inr (passphrase, given, inr (inl lacks))))) = inl (inl (inr (inr (inr lacks.0))))
encrypt_refused asked before after r (inr (admitted, inr (inr (passphrase, given, inr (inr (inl failed)))))) = inl (inl (inr (inl failed.0)))
encrypt_refused asked before after r (inr (admitted, inr (inr (passphrase, given, inr (inr (inr ends)))))) =
    text_ended asked before after r passphrase _ _ _ admitted given ends

-- ---- of `dec`

release_refused : (task : Task) (passphrase : List ℕ) (before after : HostState) (r : ScryptRefusal)
    → DecryptRefusedFromOutputOn r passphrase (take 96 before.input) task.outfile (after_passphrase_asked task 96 before) after
    → OutsideOr (Some (by_length (length before.input) (all_released task before passphrase))) r after
release_refused task passphrase before after r (inl failed) = inl (inr (inl failed.0))
release_refused task passphrase before after r (inr (inl (inl reading))) = inl (inl reading.0)
release_refused task passphrase before after r (inr (inl (inr (inl writing)))) = inl (inr (inl writing.0))
release_refused task passphrase before after r (inr (inl (inr (inr (is, long))))) =
    let rest : length (drop 96 before.input) ≡ length before.input - 96 = length-drop 96 before.input in
    inr (record {
      end = None;
      is = ap Some (length_too_long (length before.input) _ (omega (arith, rest, long.within, long.too_long)) ∙ told_as r refusal.TooLong None is);
      fits = is;
    })
release_refused task passphrase before after r (inr (inr (is, damaged))) =
    let released = all_released task before passphrase in
    let short : length before.input < 2 ^ 60 + 128 = subst (λ xs. length xs < 2 ^ 60 + 128) (both_parts 96 before.input) damaged.below_limit in
    inr (due_at _ r released after
    (ap Some (length_damaged (length before.input) released short ∙ told_as r refusal.Damaged (Some released) is)) damaged.released)

-- the file is admitted
to_file : (task : Task) (s : HostState) → input_refusal_before_passphrase task s ≡ None → from_inside (decrypt task) s ≡ of_file task s
to_file task s admitted = front_passed (input_refusal_before_passphrase task s) (after_front task.infile s) (of_file task s) admitted

-- and it is under the passphrase
to_length : (task : Task) (s : HostState) (passphrase : List ℕ) → HasPassphrase (first_line_of_source task.source s) passphrase
    → front_refusal_of task s passphrase ≡ None
    → from_inside (decrypt task) s ≡ Some (by_length (length s.input) (all_released task s passphrase))
to_length task s passphrase given passes =
    let at = after_passphrase_asked task 96 s in
    to_file task s (limits_pass s.input (allowance_of task) passphrase _ refl passes)
    ∙ line_passed (first_line_of_source task.source s) at (under_passphrase task s) passphrase given
    ∙ front_passed (front_refusal_of task s passphrase) at (Some (by_length (length s.input) (all_released task s passphrase))) passes

decrypt_refused : (task : Task) (before after : HostState) (r : ScryptRefusal) → DecryptRefused r task before after
    → OutsideOr (from_inside (decrypt task) before) r after
decrypt_refused task before after r (inl front) = front_refused (input_refusal_before_passphrase task before) task.infile before after r (of_file task before) front
decrypt_refused task before after r (inr (checked, inl refused)) =
    later r after _ (of_file task before) (to_file task before checked)
    (passphrase_refused (first_line_of_source task.source before) (after_passphrase_asked task 96 before) after r (under_passphrase task before) refused.1 refused.0)
decrypt_refused task before after r (inr (checked, inr (passphrase, given, inl lacks))) = inl (inr (inr (inr lacks.0)))
decrypt_refused task before after r (inr (checked, inr (passphrase, given, inr (inl told)))) =
    let at = after_passphrase_asked task 96 before in
    let passed = line_passed (first_line_of_source task.source before) at (under_passphrase task before) passphrase given in
    later r after _ (under_passphrase task before passphrase) (to_file task before checked ∙ passed)
    (inr (due_at _ r at after (front_told (front_refusal_of task before passphrase) at _ r told.0) told.1))
decrypt_refused task before after r (inr (checked, inr (passphrase, given, inr (inr ends)))) =
    later r after _ (Some (by_length (length before.input) (all_released task before passphrase)))
    (to_length task before passphrase given ends.0) (release_refused task passphrase before after r ends.1)

-- ---- of `info`

inspect_refused : (infile : Option Text) (before after : HostState) (r : ScryptRefusal) → InspectRefused r infile before after
    → OutsideOr (from_inside (inspect infile) before) r after
inspect_refused infile before after r (inl front) = front_refused (format_refusal before.input) infile before after r None front
inspect_refused infile before after r (inr ends) = inl (line_from_outside r _ _ _ ends.1)

-- ---- of a request

decided : (request : Request) (before after : HostState) (r : ScryptRefusal) → ScryptRequestRefused r request before after
    → IsRefusedFromOutside request r ⊎ IsRefusedBeforeMemory (from_inside request before) r after
decided (encrypt asked) before after r refused = encrypt_refused asked before after r refused
decided (decrypt task) before after r refused = decrypt_refused task before after r refused
decided (inspect infile) before after r refused = inspect_refused infile before after r refused

-- two runs that are left in the state that is due
same_state : (one other : ScryptRefusal) (after ended : HostState) (a b : Option HostState) → one ≡ other → a ≡ b → FitsEnd a one after → FitsEnd b other ended
    → (after ≡ ended) ⊎ (one ≡ refusal.TooLong)
same_state one other after ended None b same ends h1 h2 = inr h1
same_state one other after ended (Some a) None same ends h1 h2 = inr (same ∙ h2)
same_state one other after ended (Some a) (Some b) same ends h1 h2 = inl (h1 ∙ same_Some a b ends ∙ sym h2)

one_end : (due : Option Inside) (one other : ScryptRefusal) (after ended : HostState) → IsRefusedBeforeMemory due one after → IsRefusedBeforeMemory due other ended
    → AreOneEnd one other after ended
one_end due one other after ended h1 h2 =
    let same : inside one h1.end ≡ inside other h2.end = same_Some (inside one h1.end) (inside other h2.end) (sym h1.is ∙ h2.is) in
    let told : one ≡ other = ap (λ (x : Inside). x.refusal) same in record {
      told = told;
      left = same_state one other after ended h1.end h2.end told (ap (λ (x : Inside). x.end) same) h1.fits h2.fits;
    }

end_or_outside : (Outside : ScryptRefusal → Type 0) (due : Option Inside) (one other : ScryptRefusal) (after ended : HostState)
    → Outside one ⊎ IsRefusedBeforeMemory due one after → Outside other ⊎ IsRefusedBeforeMemory due other ended → AreOneEnd one other after ended ⊎ Outside one ⊎ Outside other
end_or_outside Outside due one other after ended (inl outside) h2 = inr (inl outside)
end_or_outside Outside due one other after ended (inr h1) (inl outside) = inr (inr outside)
end_or_outside Outside due one other after ended (inr h1) (inr h2) = inl (one_end due one other after ended h1 h2)

pub one_refusal : (request : Request) (before after ended : HostState) (one other : ScryptRefusal) → ScryptRequestRefused one request before after
    → ScryptRequestRefused other request before ended
    → AreOneEnd one other after ended ⊎ IsRefusedFromOutside request one ⊎ IsRefusedFromOutside request other
one_refusal request before after ended one other h1 h2 =
    end_or_outside (IsRefusedFromOutside request) (from_inside request before) one other after ended (decided request before after one h1)
    (decided request before ended other h2)
