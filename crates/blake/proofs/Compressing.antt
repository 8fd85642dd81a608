-- The work vector that the compression function begins with, and the state that it ends with.
use Rattle.std.proofs.Common.{◌≡◌, ℕ, ◌+◌, ◌/◌, ◌%◌, ◌^◌, ◌<◌, Bool, List, [], ◌∷◌, ◌++◌, length, take, set, slice_index, bit_xor, refl, sym, ap, ◌∙◌, add-one}
use Rattle.std.specs.Int.{w64, bit_not}
use Rattle.std.specs.Prelude.{if◌then◌else◌}
use Rattle.std.proofs.lemmas.List.{take_more_set}
use Rattle.std.proofs.lemmas.List.FromFn.{fill_by_all}
use Rattle.std.proofs.Math.Nat.{mod-eq_of_lt, div-eq_of_lt}
use Rattle.blake.specs.Blake2b.{iv, work_vector, state_xored_with_halves}

-- one more word of the state
pub new_state_more : (i x : ℕ) (h now v : List ℕ) → i < length now → take i now ≡ state_xored_with_halves i h v → slice_index now i ≡ slice_index h i
    → x ≡ bit_xor (bit_xor (slice_index now i) (slice_index v i)) (slice_index v (i + 8))
    → take (i + 1) (set now i x) ≡ state_xored_with_halves (i + 1) h v
unfolding state_xored_with_halves
new_state_more i x h now v lt done at e =
    take_more_set now i x lt ∙ rw (add-one, done, e, at) refl

-- the work vector word by word
pub vector_is : (h : List ℕ) (count w : ℕ) (last : Bool) → length h ≡ 8 → count < 2 ^ 64
    → w ≡ (if last then bit_not w64 (slice_index iv 6) else slice_index iv 6)
    → slice_index h 0 ∷ slice_index h 1 ∷ slice_index h 2 ∷ slice_index h 3 ∷ slice_index h 4 ∷ slice_index h 5
    ∷ slice_index h 6 ∷ slice_index h 7 ∷ slice_index iv 0 ∷ slice_index iv 1 ∷ slice_index iv 2 ∷ slice_index iv 3
    ∷ bit_xor (slice_index iv 4) count ∷ slice_index iv 5 ∷ w ∷ slice_index iv 7 ∷ []
    ≡ work_vector h count last
vector_is h count w last len small ew =
    let low : count % 2 ^ 64 ≡ count = mod-eq_of_lt small in
    let high : count / 2 ^ 64 ≡ 0 = div-eq_of_lt small in
    let whole : h ≡ slice_index h 0 ∷ slice_index h 1 ∷ slice_index h 2 ∷ slice_index h 3 ∷ slice_index h 4 ∷ slice_index h 5
    ∷ slice_index h 6 ∷ slice_index h 7 ∷ [] = fill_by_all (slice_index h) h 8 0 len (λ k lt. refl) in
    let rest : List ℕ = slice_index iv 0 ∷ slice_index iv 1 ∷ slice_index iv 2 ∷ slice_index iv 3
    ∷ bit_xor (slice_index iv 4) count ∷ slice_index iv 5 ∷ w ∷ slice_index iv 7 ∷ [] in
    sym (ap (λ (x : List ℕ). x ++ rest) whole) ∙ rw (low, high, ew) refl
