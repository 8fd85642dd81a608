-- Words that are read from bytes one by one.
use Rattle.std.proofs.Common.{◌≡◌, ℕ, zero, suc, ◌*◌, List, [], ◌∷◌, length, drop, slice_index, refl, ap, ◌∙◌, arith}
use Rattle.std.proofs.lemmas.List.{drop-drop}
use Rattle.byteorder.specs.Endian.{little_number, IsRead}
use Rattle.blake.specs.Words.{words}

-- the same word, read from the list without its first eight bytes
rest_read : (src : List ℕ) (x : ℕ) (xs : List ℕ) (k : ℕ) → slice_index (x ∷ xs) (suc k) ≡ little_number 8 (drop (8 * suc k) src)
    → slice_index xs k ≡ little_number 8 (drop (8 * k) (drop 8 src))
rest_read src x xs k e =
    let moved : drop (8 * k) (drop 8 src) ≡ drop (8 * suc k) src = drop-drop (8 * k) 8 src ∙ ap (λ (n : ℕ). drop n src) (omega arith) in
    rw moved e

-- words read one by one are the words of the bytes
pub words_read : (n : ℕ) (src dst : List ℕ) → length dst ≡ n → IsRead little_number 8 src dst → dst ≡ words n src
unfolding words
words_read zero src [] e r = refl
words_read zero src (x ∷ xs) e r = absurd (omega arith)
words_read (suc n) src [] e r = absurd (omega arith)
words_read (suc n) src (x ∷ xs) e r =
    let first : x ≡ little_number 8 src = r 0 (omega arith) in
    let rest : IsRead little_number 8 (drop 8 src) xs = λ k lt. rest_read src x xs k (r (suc k) (omega arith)) in
    let ih = words_read n (drop 8 src) xs (omega arith) rest in
    rw (first, ← ih) refl
