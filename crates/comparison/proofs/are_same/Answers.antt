use Rattle.std.proofs.Common.{ℕ, List, get_or, ap, arith, below_more, ◌≡◌, ◌∙◌, bit_or, refl, sym}
use Rattle.std.proofs.lemmas.Bool.{eqb-true, eq-eqb}
use Rattle.std.proofs.lemmas.List.{ext_get_or}
use Rattle.std.specs.Int.Bits.{bit_xor, or_add_and, xor_add_and, xor_self}
use Rattle.std.proofs.lemmas.Nat.{and_le_l, and_le_r}
use Rattle.comparison.proofs.are_same.Goals as goal

both_zero : (a b : ℕ) → bit_or a b ≡ 0 → (a ≡ 0) × (b ≡ 0)
both_zero a b h =
    let sum = or_add_and a b in
    let left = and_le_l a b in
    let right = and_le_r a b in
    (omega arith, omega arith)

none_differ : (a b : ℕ) → bit_xor a b ≡ 0 → a ≡ b
none_differ a b h =
    let sum = xor_add_and a b in
    let left = and_le_l a b in
    let right = and_le_r a b in
    omega arith

none_more : (d a b : ℕ) → d ≡ 0 → a ≡ b → bit_or d (bit_xor a b) ≡ 0
none_more d a b zero same =
    let apart : bit_xor a b ≡ 0 = ap (bit_xor a) (sym same) ∙ xor_self a in
    rw (zero, apart) refl

pub loop-i-preserved : goal.loop-i-preserved
loop-i-preserved c =
    let left : List ℕ = c.args.left.now in
    let right : List ℕ = c.args.right.now in
    let i : ℕ = c.loop-i.i in
    let d : ℕ = c.loop-i.difference in
    record {
      same = λ zero.
          let none = both_zero d (bit_xor (get_or left i 0) (get_or right i 0)) zero in
          below_more _ _ (c.loop-i.invariant.same none.0) (none_differ (get_or left i 0) (get_or right i 0) none.1);
      differs = λ equal. none_more d (get_or left i 0) (get_or right i 0) (c.loop-i.invariant.differs equal) (ap (λ (xs : List ℕ). get_or xs i 0) equal);
    }

pub returns : goal.returns
returns c =
    let left : List ℕ = c.args.left.now in
    let right : List ℕ = c.args.right.now in
    let d : ℕ = c.loop-i.difference in
    record {
      same = (
        λ zero. ext_get_or 0 left right c.requires.same_length (λ k within. c.loop-i.invariant.same (eqb-true d 0 zero) k (omega arith)),
        λ equal. eq-eqb d 0 (c.loop-i.invariant.differs equal),
      );
    }
