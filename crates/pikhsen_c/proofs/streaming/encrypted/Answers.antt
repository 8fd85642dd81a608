use Rattle.std.proofs.Common.{refl, subst}
use Rattle.pikhsen_c.specs.Stream.{StreamStateHasEncrypted}
use Rattle.pikhsen_c.specs.declared.stream.StreamState.{StreamState}
use Rattle.pikhsen_c.proofs.streaming.encrypted.Goals as goal

pub returns-in-Ok-clause-piece : goal.returns-in-Ok-clause-piece
returns-in-Ok-clause-piece c = record {
  fed = λ _ passphrase salt costs text h. (c.in-Ok.ensures.takes passphrase salt costs text
      (subst (λ (run : StreamState). StreamStateHasEncrypted run passphrase salt costs text) c.in-Enc.is h)).fed;
  written = λ _ passphrase salt costs text h. (c.in-Ok.ensures.takes passphrase salt costs text
      (subst (λ (run : StreamState). StreamStateHasEncrypted run passphrase salt costs text) c.in-Enc.is h)).written;
  fits = λ _ _ _ _ _ _. refl;
  untouched = λ some. absurd (some refl);
}
