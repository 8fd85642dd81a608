use Rattle.std.proofs.Common.{◌≡◌, ℕ, List, ◌++◌, ◌-◌, length, take, drop, arith, subst, sym, length-drop}
use Rattle.std.proofs.lemmas.List.{take-append-drop, take_all, length-take-le}
use Rattle.encfile.specs.EncryptedFile.{IsEncryptionOf, released_text}
use Rattle.pikhsen_c.proofs.file.decrypt_rest.Goals as goal

pub returns-in_default-clause-verdict : goal.returns-in_default-clause-verdict
returns-in_default-clause-verdict c = λ passphrase opened. record {
  wrong = λ wrong. absurd (omega (arith, wrong));
  right = λ _. opened.right;
  damaged = λ damaged. absurd (omega (arith, damaged));
  too_long = λ _.
      omega (arith, c.in_default.ensures.too_long passphrase (take 96 c.args.file.now) opened.opened, length-take-le 96 c.args.file.now c.requires.long, length-drop 96 c.args.file.now);
  high = omega arith;
}

pub returns-in-Ok-finish-clause-whole : goal.returns-in-Ok-finish-clause-whole
returns-in-Ok-finish-clause-whole c = λ passphrase opened.
    let file : List ℕ = c.args.file.now in
    let text : List ℕ = take c.in-Ok.len c.feed.new.out in
    let rest : List ℕ = take (length file - 96) (drop 96 file) in
    let all : List ℕ = take 96 file ++ rest in
    let joined : all ≡ file = rw (take_all (length file - 96) (drop 96 file) (rw (length-drop 96 file) (omega arith))) (take-append-drop 96 file) in
    let whole = c.in-Ok-finish.ensures.tells.whole passphrase all ((c.in-Ok.ensures.takes passphrase (take 96 file) opened.opened).read) in
    let released = (c.in-Ok.ensures.takes passphrase (take 96 file) opened.opened).released in
    let same : text ≡ released_text all passphrase = subst (λ (l : List ℕ). l ++ text ≡ released_text all passphrase) opened.nothing released in
    subst (λ (f : List ℕ). IsEncryptionOf f passphrase text) joined
    (subst (λ (t : List ℕ). IsEncryptionOf all passphrase t) (sym same) whole)

pub returns-in-Err-clause-verdict : goal.returns-in-Err-clause-verdict
returns-in-Err-clause-verdict c = λ passphrase opened.
    let file : List ℕ = c.args.file.now in
    let rest : List ℕ = take (length file - 96) (drop 96 file) in
    let all : List ℕ = take 96 file ++ rest in
    let joined : all ≡ file = rw (take_all (length file - 96) (drop 96 file) (rw (length-drop 96 file) (omega arith))) (take-append-drop 96 file) in
    record {
      wrong = λ wrong. absurd (omega (arith, wrong));
      right = λ _. opened.right;
      damaged = λ _ whole.
          c.in-Err.ensures.tells.damaged passphrase all ((c.in-Ok.ensures.takes passphrase (take 96 file) opened.opened).read)
          (subst (λ (f : List ℕ). IsEncryptionOf f passphrase (released_text f passphrase)) (sym joined) whole);
      too_long = λ long. absurd (omega (arith, long));
      high = omega arith;
    }
