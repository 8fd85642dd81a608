-- A file that is standard input itself: of it nothing is read, and no password is asked for.
use Rattle.std.proofs.Common.{◌≡◌, ◌∙◌, true, List, ap, inl, inr, refl, subst, sym}
use Rattle.host.specs.HostState.{HostState, Text}
use Rattle.argon2_verify.specs.Reading.{IsFileRefused, after_reading}
use Rattle.argon2_verify.specs.Run.{Inputs, IsRefused}
use Rattle.argon2_verify.specs.declared.refusal.VerifyRefusal.{VerifyRefusal}
use Rattle.argon2_verify.proofs.OneEnd.{not_apart}

module _ (words : List Text) (before after : HostState) where
  pub unanswered : before.input_is_stdin ≡ true → Inputs true words before after → ⊥
  unanswered own p = not_apart before own (p.apart refl)

  -- what is so of the host as it was, and of it with its input opened, is so of the host at a refusal
  module _ (r : VerifyRefusal) (own : before.input_is_stdin ≡ true) (Is : HostState → Type 0) (is : Is before) (opened : (file : Text) → Is (after_reading file 0 before)) where
    of_file : (file : Text) → IsFileRefused file r before after → Is after
    of_file file (inl (failed, inl kept)) = subst Is (sym kept) is
    of_file file (inl (failed, inr (n, few, within, none, taken))) = subst Is (sym (taken ∙ ap (λ n. after_reading file n before) (none own))) (opened file)
    of_file file (inr (inl (refused, itself, taken))) = subst Is (sym taken) (opened file)
    of_file file (inr (inr (apart, line, taken))) = not_apart before own apart

    of_refusal : IsRefused r words before after → Is after
    of_refusal (inl (refused, kept)) = subst Is (sym kept) is
    of_refusal (inr (inl told)) = of_file told.request.file told.is
    of_refusal (inr (inr (inl told))) = not_apart before own told.apart
    of_refusal (inr (inr (inr told))) = not_apart before own told.apart

  pub unread : (r : VerifyRefusal) → before.input_is_stdin ≡ true → IsRefused r words before after → after.input ≡ before.input
  unread r own = of_refusal r own (λ s. s.input ≡ before.input) refl (λ file. refl)

  pub unasked : (r : VerifyRefusal) → before.input_is_stdin ≡ true → IsRefused r words before after → after.asked ≡ before.asked
  unasked r own = of_refusal r own (λ s. s.asked ≡ before.asked) refl (λ file. refl)
