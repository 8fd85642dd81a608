-- The first line of a list of bytes, and of a beginning of it.
use Rattle.std.proofs.Common.{◌≡◌, ◌<◌, ◌≤◌, ◌+◌, min, not, cond, nat_lt, unwrap_or, ℕ, Bool, true, false, List, [], ◌∷◌, Option, Some, None, option_map, take, length, zero, suc, refl, sym, ◌∙◌, ap, arith, if◌then◌else◌}
use Rattle.std.specs.List.{position, position_or_len}
use Rattle.std.proofs.lemmas.Bool.Decides.{nat_tests}
use Rattle.std.proofs.lemmas.Grind.{common_steps}
use Rattle.std.proofs.lemmas.List.Sums.{prefix_len-le-length}
use Rattle.host.specs.Secret.{IsBeginning}
use Rattle.host.specs.FirstLine.{first_line, is_line_end}

-- ---- the first line ends at the first line end

-- the place of the first line end, by the first byte's test
place_by : (e : Bool) (b n : ℕ) (xs line : List ℕ) → take n xs ≡ line → take (cond (not e) (1 + n) 0) (b ∷ xs) ≡ (if e then [] else b ∷ line)
place_by true b n xs line same = refl
place_by false b n xs line same = let next : 1 + n ≡ suc n = omega arith in ap (λ k. take k (b ∷ xs)) next ∙ ap (λ ys. b ∷ ys) same

pub first_line-position : (xs : List ℕ) → take (position_or_len is_line_end xs) xs ≡ first_line xs
first_line-position [] = refl
first_line-position (b ∷ xs) = place_by (is_line_end b) b (position_or_len is_line_end xs) xs (first_line xs) (first_line-position xs)

-- what `position` and the length in place of None give, by the test that it stands before the end
place_within : (e : Bool) (n size : ℕ) → nat_lt n size ≡ e → n ≤ size → unwrap_or (cond e (Some n) None) size ≡ n
place_within true n size is within = refl
place_within false n size is within = grind (arith, nat_tests, is, within)

pub position-within : (xs : List ℕ) → position_or_len is_line_end xs ≤ length xs
position-within xs = prefix_len-le-length (λ b. not (is_line_end b)) xs

pub position-or_length : (xs : List ℕ) → unwrap_or (position is_line_end xs) (length xs) ≡ position_or_len is_line_end xs
position-or_length xs = place_within (nat_lt (position_or_len is_line_end xs) (length xs)) (position_or_len is_line_end xs) (length xs) refl (position-within xs)

-- ---- of a beginning

-- no more bytes, no shorter line; by the first byte's test
longer_by : (e : Bool) (b : ℕ) (xs ys : List ℕ) → length xs ≤ length ys → length (if e then [] else b ∷ xs) ≤ length (if e then [] else b ∷ ys)
longer_by true b xs ys fewer = omega arith
longer_by false b xs ys fewer = omega (arith, fewer)

-- the first line of a beginning is no longer
pub first_line-longer : (n : ℕ) (xs : List ℕ) → length (first_line (take n xs)) ≤ length (first_line xs)
first_line-longer zero xs = omega arith
first_line-longer (suc n) [] = omega arith
first_line-longer (suc n) (b ∷ xs) = longer_by (is_line_end b) b (first_line (take n xs)) (first_line xs) (first_line-longer n xs)

-- a line that ends before the beginning does; by the first byte's test
ended_by : (e : Bool) (b n : ℕ) (xs ys : List ℕ) → (length xs < n → xs ≡ ys) → length (if e then [] else b ∷ xs) < suc n → (if e then [] else b ∷ xs) ≡ (if e then [] else b ∷ ys)
ended_by true b n xs ys same few = refl
ended_by false b n xs ys same few = ap (λ zs. b ∷ zs) (same (omega (arith, few)))

-- where it has fewer bytes than the beginning, it is the first line of all
pub first_line-ended : (n : ℕ) (xs : List ℕ) → length (first_line (take n xs)) < n → first_line (take n xs) ≡ first_line xs
first_line-ended zero xs few = absurd (let h : ⊥ = omega (arith, few) in h)
first_line-ended (suc n) [] few = refl
first_line-ended (suc n) (b ∷ xs) few = ended_by (is_line_end b) b n (first_line (take n xs)) (first_line xs) (first_line-ended n xs) few

take_min : (xs : List ℕ) (m : ℕ) → take (min (length xs) m) xs ≡ take m xs
take_min xs m = grind (arith, common_steps)

-- ---- of a source, by the first bytes that came

-- the bytes that came are the source's first
came : (n size : ℕ) (bytes buf : List ℕ) → length buf ≡ size → IsBeginning (Some bytes) n buf → take n buf ≡ take size bytes
came n size bytes buf long h = h.1 ∙ ap (λ k. take k bytes) (h.0 ∙ ap (min (length bytes)) long) ∙ take_min bytes size

-- the first m bytes that came are their first line, and not all that fit: it is the source's
pub line_came : (source : Option (List ℕ)) (n m size : ℕ) (buf : List ℕ) → length buf ≡ size → IsBeginning source n buf → m ≤ n → m < size
    → take m (take n buf) ≡ first_line (take n buf) → option_map first_line source ≡ Some (take m buf)
line_came None n m size buf long h within few line = absurd h
line_came (Some bytes) n m size buf long h within few line =
    let same : take size bytes ≡ take n buf = sym (came n size bytes buf long h) in
    let shorter : take m buf ≡ take m (take n buf) = grind (arith, common_steps, within) in
    let here : first_line (take size bytes) ≡ take m buf = ap first_line same ∙ sym (shorter ∙ line) in
    let short : length (first_line (take size bytes)) < size = grind (arith, common_steps, here, few) in
    ap Some (sym (first_line-ended size bytes short) ∙ here)

-- all that fit came without a line end: the source's first line is as long, or longer
pub long_line_came : (source : Option (List ℕ)) (n size : ℕ) (buf : List ℕ) → length buf ≡ size → IsBeginning source n buf → length (first_line (take n buf)) ≡ size
    → (line : List ℕ) × (option_map first_line source ≡ Some line) × (size ≤ length line)
long_line_came None n size buf long h all = absurd h
long_line_came (Some bytes) n size buf long h all =
    let same : length (first_line (take size bytes)) ≡ size = ap (λ xs. length (first_line xs)) (sym (came n size bytes buf long h)) ∙ all in
    (first_line bytes, refl, omega (arith, same, first_line-longer size bytes))
