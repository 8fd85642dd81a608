-- Octets and words, and the parts of B, one more at a time.
use Rattle.std.proofs.Common.{◌≡◌, ℕ, ◌+◌, ◌*◌, ◌<◌, List, ◌++◌, length, take, drop, slice_index, arith, ap, sym, ◌∙◌, add-one}
use Rattle.std.proofs.lemmas.List.{drop-drop, ext_get_or, get_or-map, length-map}
use Rattle.std.proofs.lemmas.List.FromFn.{get_or-range_with_len, length-range_with_len}
use Rattle.std.specs.List.{range_with_len}
use Rattle.byteorder.specs.Endian.{little_number}
use Rattle.romix.specs.Romix.{romix}
use Rattle.romix.specs.Scrypt.{mixed_part, parts_after_romix, octets_of, part_at, words_of}

-- words that were read one by one
pub words_read : (octets words : List ℕ) → ((k : ℕ) → k < length words → slice_index words k ≡ little_number 4 (drop (4 * k) octets))
    → words ≡ words_of octets (length words)
unfolding words_of
words_read octets words read =
    let n : ℕ = length words in
    let places : List ℕ = range_with_len 0 n in
    let f : ℕ → ℕ = λ i. little_number 4 (drop (4 * i) octets) in
    let long : length places ≡ n = length-range_with_len 0 n in
    ext_get_or 0 _ _ (omega (arith, length-map places f))
    (λ k h. let e : 0 + k ≡ k = omega arith in
    read k h ∙ sym (get_or-map f places k 0 0 (omega arith) ∙ ap f (get_or-range_with_len 0 n k 0 h ∙ e)))

-- one more part
pub parts_after_romix-more : (b t o : List ℕ) (n r k : ℕ) → t ≡ parts_after_romix b n r k → o ≡ mixed_part (part_at b r k) n r → t ++ o ≡ parts_after_romix b n r (k + 1)
unfolding parts_after_romix
parts_after_romix-more b t o n r k ht ho = rw (add-one k, ht, ho)

-- one more part is mixed, where those before are and the bytes from it on are those of B
pub part_done : (b bytes o : List ℕ) (n r k len m w : ℕ) → len ≡ 128 * r → w ≡ 32 * r → m ≡ len → drop (len * k) bytes ≡ drop (len * k) b
    → take (len * k) bytes ≡ parts_after_romix b n r k → o ≡ octets_of (romix (words_of (take m (drop (len * k) bytes)) w) n)
    → take (len * k) bytes ++ o ≡ parts_after_romix b n r (k + 1)
part_done b bytes o n r k len m w hl hw hm left done ho =
    parts_after_romix-more b _ o n r k done (ho ∙ rw (hm, hw, left, hl))

-- the bytes after it are those of B
pub left_more : (b bytes new : List ℕ) (len k : ℕ) → drop (len * (k + 1)) new ≡ drop (len * (k + 1)) bytes → drop (len * k) bytes ≡ drop (len * k) b
    → drop (len * (k + 1)) new ≡ drop (len * (k + 1)) b
left_more b bytes new len k same left =
    let e : len * (k + 1) ≡ len * k + len = omega arith in
    same ∙ rw (e, ← drop-drop len (len * k) bytes, ← drop-drop len (len * k) b, left)
