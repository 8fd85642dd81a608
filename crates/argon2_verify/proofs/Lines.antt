-- The first line of a file, as far as its bytes came.
use Rattle.std.proofs.Common.{◌≡◌, ◌∙◌, ◌≤◌, ◌<◌, ◌+◌, ◌++◌, ℕ, Bool, true, false, List, [], ◌∷◌, zero, suc, drop, length, take, slice_index_or, slice_set, arith, refl, ap, sym, subst, if◌then◌else◌}
use Rattle.std.proofs.lemmas.Grind.{common_steps}
use Rattle.std.proofs.lemmas.List.{take_more_set}
use Rattle.std.proofs.Math.Seq.{take-add}
use Rattle.argon2_verify.specs.Reading.{hash_line, is_hash_end}

-- by the first byte's test
short_by : (e : Bool) (b : ℕ) (line rest : List ℕ) → length line ≤ length rest → length (if e then [] else b ∷ line) ≤ length (b ∷ rest)
short_by true b line rest fewer = omega arith
short_by false b line rest fewer = omega (arith, fewer)

-- no line has more bytes than its file
pub line_within : (xs : List ℕ) → length (hash_line xs) ≤ length xs
line_within [] = omega arith
line_within (b ∷ xs) = short_by (is_hash_end b) b (hash_line xs) xs (line_within xs)

split_by : (e : Bool) (b k : ℕ) (all line : List ℕ) → (k ≤ length line → all ≡ line) → suc k ≤ length (if e then [] else b ∷ line) → b ∷ all ≡ (if e then [] else b ∷ line)
split_by true b k all line same few = absurd (let h : ⊥ = omega (arith, few) in h)
split_by false b k all line same few = ap (λ xs. b ∷ xs) (same (omega (arith, few)))

-- a line is its first bytes, and the line of what stands behind them
split : (k : ℕ) (xs : List ℕ) → k ≤ length (hash_line xs) → take k xs ++ hash_line (drop k xs) ≡ hash_line xs
split zero xs few = refl
split (suc k) [] few = absurd (let h : ⊥ = omega (arith, few) in h)
split (suc k) (b ∷ xs) few = split_by (is_hash_end b) b k (take k xs ++ hash_line (drop k xs)) (hash_line xs) (split k xs) few

-- the line of bytes whose first is b, by whether b ends it
line_by : (b : ℕ) (e : Bool) (ys : List ℕ) → take 1 ys ≡ b ∷ [] → is_hash_end b ≡ e → hash_line ys ≡ (if e then [] else b ∷ hash_line (drop 1 ys))
line_by b e [] came is = grind (arith, common_steps, came)
line_by b e (y ∷ ys) came is =
    let first : y ≡ b = ap (λ xs. slice_index_or xs 0 0) came in
    subst (λ e. hash_line (y ∷ ys) ≡ (if e then [] else b ∷ hash_line ys)) is
    (subst (λ x. hash_line (y ∷ ys) ≡ (if is_hash_end x then [] else x ∷ hash_line ys)) first refl)

-- of a file, of whose line k bytes came, and then this byte
module _ (k : ℕ) (xs bytes : List ℕ) (within : k ≤ length (hash_line xs)) (one : length bytes ≡ 1) (came : take 1 bytes ≡ take 1 (drop k xs)) where
  first : take 1 (drop k xs) ≡ slice_index_or bytes 0 0 ∷ []
  first = sym came ∙ (let only : take 1 bytes ≡ slice_index_or bytes 0 0 ∷ [] = grind (arith, common_steps, one) in only)

  -- it ends the line
  pub ended : is_hash_end (slice_index_or bytes 0 0) ≡ true → take k xs ≡ hash_line xs
  ended is =
      let last : hash_line (drop k xs) ≡ [] = line_by (slice_index_or bytes 0 0) true (drop k xs) first is in
      grind (arith, common_steps, last, split k xs within)

  -- it does not
  pub longer : is_hash_end (slice_index_or bytes 0 0) ≡ false → k + 1 ≤ length (hash_line xs)
  longer is =
      let more : hash_line (drop k xs) ≡ slice_index_or bytes 0 0 ∷ hash_line (drop 1 (drop k xs)) = line_by (slice_index_or bytes 0 0) false (drop k xs) first is in
      grind (arith, common_steps, more, split k xs within, line_within xs, within)

  -- a buffer that held what came holds it, too
  pub put : (buf : List ℕ) → k < length buf → take k buf ≡ take k xs → take (k + 1) (slice_set buf k (slice_index_or bytes 0 0)) ≡ take (k + 1) xs
  put buf room held =
      take_more_set buf k (slice_index_or bytes 0 0) room ∙ ap (λ ys. ys ++ slice_index_or bytes 0 0 ∷ []) held ∙ ap (λ ys. take k xs ++ ys) (sym first) ∙ sym (take-add k 1 xs)

-- nothing came
pub ended_there : (k : ℕ) (xs : List ℕ) → k ≤ length (hash_line xs) → drop k xs ≡ [] → take k xs ≡ hash_line xs
ended_there k xs within nothing = grind (arith, common_steps, split k xs within, ap hash_line nothing)
