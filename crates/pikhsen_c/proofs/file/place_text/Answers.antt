use Rattle.std.proofs.Common.{◌≡◌, ◌∙◌, ◌+◌, ◌-◌, ◌≤◌, ◌++◌, ℕ, List, length, take, drop, arith, ap, refl, sym, subst}
use Rattle.std.proofs.Math.Seq.{drop-append_seam, paste}
use Rattle.std.proofs.lemmas.List.{drop-take, length-take-le}
use Rattle.std.proofs.lemmas.List.Edits.{take-paste}
use Rattle.std.proofs.lemmas.Slice.{between-put_mid}
use borrow.Rule.Slice.PartMut.{put_mid}
use Rattle.pikhsen_c.proofs.file.place_text.Goals as goal

-- a text that was copied within a list stands where it was copied to
moved_text : (old text : List ℕ) (at n len : ℕ) → text ≡ old → len ≡ n → at + n ≤ length old
    → take n (drop at (paste old at text len)) ≡ take n old
moved_text old text at n len same all fits =
    let front : length (take at old) ≡ at = length-take-le at old (omega (arith, fits)) in
    let pasted : take (at + n) (paste old at old n) ≡ take at old ++ take n old =
    take-paste old at old n (omega (arith, fits)) (omega (arith, fits)) in
    ap (λ (x : List ℕ). take n (drop at (paste old at x len))) same
    ∙ ap (λ (k : ℕ). take n (drop at (paste old at old k))) all
    ∙ sym (drop-take at n (paste old at old n))
    ∙ ap (λ (x : List ℕ). drop at x) pasted
    ∙ subst (λ (k : ℕ). drop k (take at old ++ take n old) ≡ take n old) front
    (drop-append_seam (take at old) (take n old))

pub returns-in-None : goal.returns-in-None
returns-in-None c =
    let out : List ℕ = c.args.out.now in
    let n : ℕ = length out - 128 in
    record {
      placed = rw c.in-None.is
          (ap (λ (all : List ℕ). take n (drop 96 all)) c.copy_within.ensures.after
          ∙ moved_text out (drop 0 out) 96 n (n - 0) refl (omega arith) (omega arith));
    }

pub returns-in-Some : goal.returns-in-Some
returns-in-Some c =
    let out : List ℕ = c.args.out.now in
    let n : ℕ = length out - 128 in
    let part : List ℕ = c.copy_from_slice.new.self in
    let room = rw c.in-Some.is at c.requires.room in
    let long : length part ≡ 96 + n - 96 = omega (arith, ap length c.copy_from_slice.ensures.after, room) in
    let same : 96 + n - 96 ≡ n = omega arith in
    record {
      placed = rw c.in-Some.is
          (subst (λ (k : ℕ). take k (drop 96 (put_mid 96 (96 + n - 96) out part)) ≡ part) same
          (between-put_mid 96 (96 + n - 96) out part (96 + n) (omega (arith, room)) long)
          ∙ c.copy_from_slice.ensures.after);
    }
