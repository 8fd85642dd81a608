-- What a run of `dec` comes to on an encrypted file, under its passphrase, and what refuses it.
use Rattle.std.proofs.Common.{◌≡◌, ◌++◌, inl, inr, ◌+◌, ◌-◌, ℕ, List, Option, Some, None, option_map, take, drop, length, ap, sym, subst, refl, ◌∙◌, arith}
use Rattle.std.proofs.lemmas.Option.{none-some, same_Some}
use Rattle.std.proofs.lemmas.List.{length-drop}
use Rattle.std.proofs.lemmas.Grind.{common_steps}
use Rattle.romix.specs.Allowance.{Allowance}
use Rattle.romix.specs.Costs.{Parameters}
use Rattle.encfile.specs.EncryptedFile.{IsEncryptionOf, released_text}
use Rattle.encfile.specs.Front.{FrontRefusal, front_refusal, file_refusal_before_passphrase}
use Rattle.encfile.specs.Laws.{EncryptionRoundTrips}
use Rattle.encfile.proofs.Files.{EncryptionRoundTrips-is, length-encrypted_file}
use Rattle.encfile.proofs.Fronts.{front_refusal-encrypted_file, front_refusal-limits}
use Rattle.host.specs.HostState.{HostState, Text}
use Rattle.scrypt_run.specs.Decrypting.{DecryptRefused, DecryptSucceeds, front_refusal_of, input_refusal_before_passphrase}
use Rattle.scrypt_run.specs.Inside.Decrypting.{DecryptRefusedFromOutputOn}
use Rattle.scrypt_run.specs.Laws.{CanBeOpened, IsFromOutside, WroteWhatWasEncrypted}
use Rattle.scrypt_run.specs.Passphrase.{HasPassphrase, PassphraseRefused, first_line_of_source}
use Rattle.scrypt_run.specs.Front.{FrontRefused}
use Rattle.scrypt_run.specs.Refusal.{refusal_of}
use Rattle.scrypt_request.specs.Request.{Task, allowance_of}
use Rattle.scrypt_run.specs.Steps.{after_passphrase_asked}
use Rattle.scrypt_request.specs.declared.refusal.ScryptRefusal.{ScryptRefusal}

-- a source gives one passphrase
pub one_passphrase : (line : Option (List ℕ)) (p q : List ℕ) → HasPassphrase line p → HasPassphrase line q → p ≡ q
one_passphrase line p q hp hq = same_Some p q (sym hp.is ∙ hq.is)

-- a list is its first n and the rest
pub both_parts : (n : ℕ) (xs : List ℕ) → take n xs ++ drop n xs ≡ xs
both_parts n xs = grind (arith, common_steps)

all_of_rest : (n : ℕ) (xs : List ℕ) → take n xs ++ take (length (drop n xs)) (drop n xs) ≡ xs
all_of_rest n xs = grind (arith, common_steps)

-- the front is taken, and the whole is an encryption, under the passphrase that the source gives
pub record IsGenuine (task : Task) (before : HostState) (passphrase : List ℕ) : Type 0 where
  pub given : HasPassphrase (first_line_of_source task.source before) passphrase
  pub passes : front_refusal_of task before passphrase ≡ None
  pub encryption : IsEncryptionOf before.input passphrase (released_text before.input passphrase)

-- ---- a run that ends well

pub genuine_by_success : (task : Task) (before after : HostState) (ends : DecryptSucceeds task before after) → IsGenuine task before ends.passphrase
genuine_by_success task before after ends = record {
  given = ends.given;
  passes = ends.passes;
  encryption = subst (λ f. IsEncryptionOf f ends.passphrase (released_text f ends.passphrase)) (both_parts 96 before.input) ends.decrypted.genuine;
}

-- what is written is what the input releases
what_is_written : (task : Task) (before after : HostState) (ends : DecryptSucceeds task before after)
    → after.output ≡ before.output ++ released_text before.input ends.passphrase
what_is_written task before after ends =
    ap (λ (s : HostState). s.output) ends.decrypted.released
    ∙ ap (λ f. before.output ++ released_text f ends.passphrase) (all_of_rest 96 before.input)

-- and the input is an encryption of it
pub wrote_what_was_encrypted : (task : Task) (before after : HostState) → DecryptSucceeds task before after → WroteWhatWasEncrypted task before after
wrote_what_was_encrypted task before after ends = record {
  passphrase = ends.passphrase;
  text = released_text before.input ends.passphrase;
  given = ends.given;
  encryption = (genuine_by_success task before after ends).encryption;
  written = what_is_written task before after ends;
}

-- ---- the file of a text

gives_back : (task : Task) (before : HostState) (passphrase salt : List ℕ) (costs : Parameters) (text : List ℕ)
    → CanBeOpened task before passphrase salt costs text → EncryptionRoundTrips passphrase salt costs text
gives_back task before passphrase salt costs text h = EncryptionRoundTrips-is passphrase salt costs text h.salt_has_32_bytes h.in_range h.below_limit

-- what is released is the text
released : (task : Task) (before : HostState) (passphrase salt : List ℕ) (costs : Parameters) (text : List ℕ)
    → CanBeOpened task before passphrase salt costs text → released_text before.input passphrase ≡ text
released task before passphrase salt costs text h =
    ap (λ f. released_text f passphrase) h.input ∙ (gives_back task before passphrase salt costs text h).released

genuine_by_file : (task : Task) (before : HostState) (passphrase salt : List ℕ) (costs : Parameters) (text : List ℕ)
    → CanBeOpened task before passphrase salt costs text → IsGenuine task before passphrase
genuine_by_file task before passphrase salt costs text h = record {
  given = h.given;
  passes = ap (λ f. front_refusal f (allowance_of task) passphrase) h.input
      ∙ front_refusal-encrypted_file passphrase salt costs text (allowance_of task) h.salt_has_32_bytes h.in_range h.admitted;
  encryption = subst (λ xs. IsEncryptionOf before.input passphrase xs) (sym (released task before passphrase salt costs text h))
      (subst (λ f. IsEncryptionOf f passphrase text) (sym h.input) (gives_back task before passphrase salt costs text h).encryption);
}

pub text_is_written : (task : Task) (before after : HostState) (passphrase salt : List ℕ) (costs : Parameters) (text : List ℕ)
    → CanBeOpened task before passphrase salt costs text → DecryptSucceeds task before after → after.output ≡ before.output ++ text
text_is_written task before after passphrase salt costs text h ends =
    what_is_written task before after ends
    ∙ ap (λ p. before.output ++ released_text before.input p) (one_passphrase _ ends.passphrase passphrase ends.given h.given)
    ∙ ap (λ xs. before.output ++ xs) (released task before passphrase salt costs text h)

-- ---- no refusal of the product's own

pub limits_pass : (file : List ℕ) (allowed : Allowance) (passphrase : List ℕ) (first : Option FrontRefusal)
    → file_refusal_before_passphrase file allowed ≡ first → front_refusal file allowed passphrase ≡ None → first ≡ None
limits_pass file allowed passphrase None is passes = refl
limits_pass file allowed passphrase (Some r) is passes =
    absurd (none-some r (sym passes ∙ front_refusal-limits file allowed passphrase r is))

pub none_refuses : (first : Option FrontRefusal) (r : ScryptRefusal) → first ≡ None → option_map refusal_of first ≡ Some r → ⊥
none_refuses first r none told = none-some r (sym (ap (option_map refusal_of) none) ∙ told)

pub passphrase_from_outside : (line : Option (List ℕ)) (passphrase : List ℕ) (r : ScryptRefusal) → HasPassphrase line passphrase → PassphraseRefused r line
    → IsFromOutside r
passphrase_from_outside line passphrase r given (inl failed) = inr (inr (inl failed))
passphrase_from_outside line passphrase r given (inr (is, long, line_is, longer)) =
    let same : long ≡ passphrase = same_Some long passphrase (sym line_is ∙ given.is) in
    absurd (let h : ⊥ = omega (arith, ap length same, longer, given.fits) in h)

pub front_from_outside : (first : Option FrontRefusal) (infile : Option Text) (before after : HostState) (r : ScryptRefusal) → first ≡ None
    → FrontRefused r first infile before after → IsFromOutside r
front_from_outside first infile before after r none (inl failed) = inl failed.0
front_from_outside first infile before after r none (inr told) = absurd (none_refuses first r none told.0)

length_input : (task : Task) (before : HostState) (passphrase : List ℕ) → IsGenuine task before passphrase
    → length before.input ≡ 128 + length (released_text before.input passphrase)
length_input task before passphrase h =
    ap length h.encryption.bytes
    ∙ length-encrypted_file passphrase h.encryption.salt h.encryption.costs (released_text before.input passphrase) h.encryption.salt_has_32_bytes

admitted : (task : Task) (before : HostState) (passphrase : List ℕ) → IsGenuine task before passphrase → input_refusal_before_passphrase task before ≡ None
admitted task before passphrase h = limits_pass before.input (allowance_of task) passphrase _ refl h.passes

releasing_from_outside : (task : Task) (before after : HostState) (passphrase other : List ℕ) (r : ScryptRefusal) → IsGenuine task before passphrase
    → HasPassphrase (first_line_of_source task.source before) other
    → DecryptRefusedFromOutputOn r other (take 96 before.input) task.outfile (after_passphrase_asked task 96 before) after → IsFromOutside r
releasing_from_outside task before after passphrase other r h given (inl failed) = inr (inl failed.0)
releasing_from_outside task before after passphrase other r h given (inr (inl (inl reading))) = inl reading.0
releasing_from_outside task before after passphrase other r h given (inr (inl (inr (inl writing)))) = inr (inl writing.0)
releasing_from_outside task before after passphrase other r h given (inr (inl (inr (inr (is, long))))) =
    let rest : length (drop 96 before.input) ≡ length before.input - 96 = length-drop 96 before.input in
    absurd (let w : ⊥ = omega (arith, length_input task before passphrase h, rest, h.encryption.below_limit, long.within, long.too_long) in w)
releasing_from_outside task before after passphrase other r h given (inr (inr (is, damaged))) =
    let same : other ≡ passphrase = one_passphrase _ other passphrase given h.given in
    absurd (damaged.damaged (subst (λ f. IsEncryptionOf f other (released_text f other)) (sym (both_parts 96 before.input))
    (subst (λ p. IsEncryptionOf before.input p (released_text before.input p)) (sym same) h.encryption)))

pub decrypt_from_outside : (task : Task) (before after : HostState) (passphrase : List ℕ) (r : ScryptRefusal) → IsGenuine task before passphrase
    → DecryptRefused r task before after → IsFromOutside r
decrypt_from_outside task before after passphrase r h (inl front) = front_from_outside _ task.infile before after r (admitted task before passphrase h) front
decrypt_from_outside task before after passphrase r h (inr (checked, inl refused)) = passphrase_from_outside _ passphrase r h.given refused.0
decrypt_from_outside task before after passphrase r h (inr (checked, inr (other, given, inl lacks))) = inr (inr (inr lacks.0))
decrypt_from_outside task before after passphrase r h (inr (checked, inr (other, given, inr (inl told)))) =
    let passes = ap (front_refusal_of task before) (one_passphrase _ other passphrase given h.given) ∙ h.passes in
    absurd (none_refuses (front_refusal_of task before other) r passes told.0)
decrypt_from_outside task before after passphrase r h (inr (checked, inr (other, given, inr (inr ends)))) =
    releasing_from_outside task before after passphrase other r h given ends.1

pub file_from_outside : (task : Task) (before after : HostState) (passphrase salt : List ℕ) (costs : Parameters) (text : List ℕ) (r : ScryptRefusal)
    → CanBeOpened task before passphrase salt costs text → DecryptRefused r task before after → IsFromOutside r
file_from_outside task before after passphrase salt costs text r h refused =
    decrypt_from_outside task before after passphrase r (genuine_by_file task before passphrase salt costs text h) refused
