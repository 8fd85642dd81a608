-- What stands behind the end of the first line of a file: it is not read, and changes no end of a run.
use Rattle.std.proofs.Common.{◌≡◌, ◌∙◌, ◌≤◌, ◌+◌, ◌++◌, ℕ, true, List, [], ◌∷◌, zero, suc, drop, length, length-append, min, ap, arith, inl, inr, refl, subst, sym}
use Rattle.std.proofs.lemmas.Grind.{common_steps}
use Rattle.std.proofs.lemmas.List.{append_assoc, drop_all}
use Rattle.host.specs.HostState.{HostState, Text}
use Rattle.argon2_verify.specs.Hash.{IsLineRefused, Says}
use Rattle.argon2_verify.specs.Reading.{IsFileRefused, after_file_read, after_password_asked, after_reading, hash_line}
use Rattle.argon2_verify.specs.Run.{Differs, Inputs, IsRefused, Verifies}
use Rattle.argon2_verify.specs.declared.refusal.VerifyRefusal.{VerifyRefusal}

-- ---- another input with this line

module _ (words : List Text) (before : HostState) (input : List ℕ) (same : hash_line input ≡ hash_line before.input) where
  abbrev other : HostState
  other = record before { input = input }

  inputs : (after : HostState) (p : Inputs true words before after) → Inputs true words other (after_password_asked p.request.file other)
  inputs after p = record {
    request = p.request;
    of_words = p.of_words;
    line = p.line;
    value = p.value;
    says = p.says;
    admitted = p.admitted;
    password = p.password;
    fits = p.fits;
    apart = p.apart;
    line_read = λ t. p.line_read t ∙ sym same;
    password_read = p.password_read;
    left = λ _. refl;
  }

  pub verifies : (after : HostState) → Verifies true words before after → (left : HostState) × Verifies true words other left
  unfolding inputs
  verifies after told = (after_password_asked told.inputs.request.file other, record { inputs = inputs after told.inputs; same = told.same })

  pub differs : (after : HostState) → Differs true words before after → (left : HostState) × Differs true words other left
  unfolding inputs
  differs after told = (after_password_asked told.inputs.request.file other, record { inputs = inputs after told.inputs; other = told.other })

  of_file : (after : HostState) (r : VerifyRefusal) (file : Text) → IsFileRefused file r before after → (left : HostState) × IsFileRefused file r other left
  of_file after r file (inl (failed, inl kept)) = (other, inl (failed, inl refl))
  of_file after r file (inl (failed, inr (n, few, within, own, taken))) =
      (after_reading file n other, inl (failed, inr (n, few, subst (λ xs. n ≤ length xs) (sym same) within, own, refl)))
  of_file after r file (inr (inl (is, own, taken))) = (after_reading file 0 other, inr (inl (is, own, refl)))
  of_file after r file (inr (inr (apart, line, taken))) =
      (after_file_read file other, inr (inr (apart, subst (λ xs. IsLineRefused xs r) (sym same) line, refl)))

  pub refused : (after : HostState) (r : VerifyRefusal) → IsRefused r words before after → (left : HostState) × IsRefused r words other left
  refused after r (inl (is, kept)) = (other, inl (is, refl))
  refused after r (inr (inl told)) =
      let found = of_file after r told.request.file told.is in
      (found.0, inr (inl record { request = told.request; of_words = told.of_words; is = found.1 }))
  refused after r (inr (inr (inl told))) = (
    after_file_read told.request.file other,
    inr (inr (inl record {
      request = told.request;
      of_words = told.of_words;
      value = told.value;
      apart = told.apart;
      says = subst (λ xs. Says xs told.value) (sym same) told.says;
      is = told.is;
      left = refl;
    })),
  )
  refused after r (inr (inr (inr told))) = (
    after_password_asked told.request.file other,
    inr (inr (inr record {
      request = told.request;
      of_words = told.of_words;
      value = told.value;
      apart = told.apart;
      says = subst (λ xs. Says xs told.value) (sym same) told.says;
      admitted = told.admitted;
      is = told.is;
      left = refl;
    })),
  )

-- ---- what is left of the input

-- no more than a line and its end are taken of bytes
taken : (n : ℕ) (line behind : List ℕ) (e : ℕ) → n ≤ length line + 1 → (unread : List ℕ) × (drop n (line ++ e ∷ behind) ≡ unread ++ behind)
taken zero line behind e few = (line ++ e ∷ [], sym (append_assoc line (e ∷ []) behind))
taken (suc zero) [] behind e few = ([], refl)
taken (suc (suc n)) [] behind e few = absurd (let wrong : ⊥ = omega (arith, few) in wrong)
taken (suc n) (b ∷ line) behind e few = taken n line behind e (omega (arith, few))

-- a line and its end
all_taken : (line behind : List ℕ) (e : ℕ) → drop (suc (length line)) (line ++ e ∷ behind) ≡ behind
all_taken [] behind e = refl
all_taken (b ∷ line) behind e = all_taken line behind e

module _ (words : List Text) (before after : HostState) where
  pub left : (e : ℕ) (behind : List ℕ) → before.input ≡ hash_line before.input ++ e ∷ behind → Inputs true words before after → after.input ≡ behind
  left e behind whole p =
      let line : List ℕ = hash_line before.input in
      let short : length line ≤ 8191 = subst (λ xs. length xs ≤ 8191) (p.line_read refl) p.says.short in
      let all : length before.input ≡ length line + suc (length behind) = ap length whole ∙ length-append line (e ∷ behind) in
      let many : min (length before.input) (min 8192 (length line + 1)) ≡ suc (length line) = grind (arith, common_steps, all, short) in
      ap (λ (s : HostState). s.input) (p.left refl) ∙ ap (λ n. drop n before.input) many ∙ ap (drop (suc (length line))) whole
      ∙ all_taken line behind e

  pub none_left : before.input ≡ hash_line before.input → Inputs true words before after → after.input ≡ []
  none_left whole p =
      let line : List ℕ = hash_line before.input in
      let short : length line ≤ 8191 = subst (λ xs. length xs ≤ 8191) (p.line_read refl) p.says.short in
      let many : min (length before.input) (min 8192 (length line + 1)) ≡ length before.input = grind (arith, common_steps, ap length whole, short) in
      ap (λ (s : HostState). s.input) (p.left refl) ∙ ap (λ n. drop n before.input) many ∙ drop_all (length before.input) before.input (omega arith)

  module _ (e : ℕ) (behind : List ℕ) (whole : before.input ≡ hash_line before.input ++ e ∷ behind) where
    abbrev IsUnread : List ℕ → Type 0
    IsUnread input = (unread : List ℕ) × (input ≡ unread ++ behind)

    kept : after ≡ before → IsUnread after.input
    kept same =
        let joined = sym (append_assoc (hash_line before.input) (e ∷ []) behind) in
        (hash_line before.input ++ e ∷ [], ap (λ (s : HostState). s.input) same ∙ whole ∙ joined)

    some : (n : ℕ) → n ≤ length (hash_line before.input) + 1 → after.input ≡ drop n before.input → IsUnread after.input
    some n few is =
        let found = taken n (hash_line before.input) behind e few in
        (found.0, is ∙ ap (drop n) whole ∙ found.1)

    by_line : after.input ≡ drop (min (length before.input) (min 8192 (length (hash_line before.input) + 1))) before.input → IsUnread after.input
    by_line is = some (min (length before.input) (min 8192 (length (hash_line before.input) + 1))) (grind (arith, common_steps)) is

    by_file : (r : VerifyRefusal) (file : Text) → IsFileRefused file r before after → IsUnread after.input
    by_file r file (inl (failed, inl same)) = kept same
    by_file r file (inl (failed, inr (n, few, within, own, is))) = some n (omega (arith, within)) (ap (λ (s : HostState). s.input) is)
    by_file r file (inr (inl (refused, own, is))) = some 0 (omega arith) (ap (λ (s : HostState). s.input) is)
    by_file r file (inr (inr (apart, line, is))) = by_line (ap (λ (s : HostState). s.input) is)

    pub by_refusal : (r : VerifyRefusal) → IsRefused r words before after → IsUnread after.input
    by_refusal r (inl (refused, same)) = kept same
    by_refusal r (inr (inl told)) = by_file r told.request.file told.is
    by_refusal r (inr (inr (inl told))) = by_line (ap (λ (s : HostState). s.input) told.left)
    by_refusal r (inr (inr (inr told))) = by_line (ap (λ (s : HostState). s.input) told.left)
