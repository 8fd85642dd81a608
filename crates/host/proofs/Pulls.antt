-- Pulls one after another.
use Rattle.std.proofs.Common.{◌≡◌, ◌≤◌, ◌∷◌, refl, suc, ℕ, List, [], ◌+◌, ◌-◌, ◌++◌, take, drop, length, sym, ◌∙◌, ap, arith}
use Rattle.std.proofs.lemmas.Slice.{take-put_mid}
use borrow.Rule.Slice.PartMut.{put_mid}
use Rattle.std.proofs.lemmas.List.{length-drop}
use Rattle.std.proofs.Math.Seq.{take-add}
use Rattle.std.proofs.lemmas.Grind.{common_steps}
use Rattle.host.specs.HostState.{HostState}

-- what is left bounds the next bytes
pub fits_on : (j n : ℕ) (s t : HostState) → t.input ≡ drop j s.input → j ≤ length s.input → n ≤ length t.input → j + n ≤ length s.input
fits_on j n s t left within more =
    let rest : length t.input ≡ length s.input - j = ap length left ∙ length-drop j s.input in
    omega (arith, rest, within, more)

-- a beginning of the first list is one of the whole
pub begun_on : (before out : List ℕ) (m : ℕ) → before ++ take m out ≡ take (length before + m) (before ++ out)
begun_on [] out m = grind (arith, common_steps)
begun_on (x ∷ before) out m =
    let longer : length (x ∷ before) + m ≡ suc (length before + m) = omega arith in
    ap (λ xs. x ∷ xs) (begun_on before out m) ∙ ap (λ k. take k (x ∷ before ++ out)) (sym longer)

-- a beginning of a beginning
pub take_take : (m n : ℕ) (xs : List ℕ) → m ≤ n → take m xs ≡ take m (take n xs)
take_take m n xs fits = grind (arith, common_steps, fits)

-- a buffer that held the first i bytes holds n more
pub put_on : (i k n : ℕ) (xs new input : List ℕ) → i ≤ length xs → n ≤ length new → take i xs ≡ take i input → take n new ≡ take n (drop i input)
    → take (i + n) (put_mid i k xs new) ≡ take (i + n) input
put_on i k n xs new input within few first next =
    let whole : take (i + length new) (put_mid i k xs new) ≡ take i xs ++ new = take-put_mid i k xs new (i + length new) refl within in
    let long : length (take i xs) + n ≡ i + n = grind (arith, common_steps, within) in
    take_take (i + n) (i + length new) _ (omega (arith, few))
    ∙ ap (take (i + n)) whole ∙ ap (λ m. take m (take i xs ++ new)) (sym long) ∙ sym (begun_on (take i xs) new n)
    ∙ ap (λ ys. ys ++ take n new) first ∙ ap (λ ys. take i input ++ ys) next ∙ sym (take-add i n input)
