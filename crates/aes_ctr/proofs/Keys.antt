-- The key schedule and the key that begins it.
use Rattle.std.proofs.Common.{◌≡◌, ℕ, zero, suc, ◌+◌, ◌*◌, ◌<◌, List, [], ◌∷◌, ◌++◌, length, take, drop, set, get_or, slice_index_or, bit_xor, arith, refl, ap, sym, ◌∙◌, add-one, length-append, append-nil}
use Rattle.std.proofs.lemmas.List.{take_all, take_more_set, get_or-take, take-append-le, append_assoc, take-append-drop, take-take, drop-take}
use Rattle.std.specs.Simd.Lanes.{zip2}
use Rattle.std.specs.List.{concat}
use Rattle.aes_ctr.specs.Aes.{key_of, key_words, schedule_words, sub_bytes, sub_word, key_expansion_temp, word_at}

pub length-key_words : (key : List ℕ) (n : ℕ) → length (key_words key n) ≡ n
unfolding key_words
length-key_words key zero = refl
length-key_words key (suc n) = omega (arith, length-key_words key n, length-append (key_words key n) (take 4 (drop (4 * n) key) ∷ []))

pub length-schedule_words : (key : List ℕ) (n : ℕ) → length (schedule_words key n) ≡ n + 8
unfolding schedule_words
length-schedule_words key zero = length-key_words key 8
length-schedule_words key (suc n) =
    omega (arith, length-schedule_words key n, length-append (schedule_words key n) (zip2 bit_xor (word_at (schedule_words key n) n) (key_expansion_temp (word_at (schedule_words key n) (n + 7)) (n + 8)) ∷ []))

-- one more word of the key
pub key_words_more : (key : List ℕ) (words : List (List ℕ)) (i : ℕ) (x : List ℕ) → i < length words → take i words ≡ key_words key i
    → x ≡ take 4 (drop (4 * i) key) → take (i + 1) (set words i x) ≡ key_words key (i + 1)
unfolding key_words
key_words_more key words i x h e ex = take_more_set words i x h ∙ rw (add-one i, e, ex)

-- one more word of the schedule
pub schedule_words_more : (key : List ℕ) (words : List (List ℕ)) (n : ℕ) (t x : List ℕ) → n + 8 < length words → take (n + 8) words ≡ schedule_words key n
    → t ≡ key_expansion_temp (get_or words (n + 7) []) (n + 8) → x ≡ zip2 bit_xor (get_or words n []) t
    → take (n + 1 + 8) (set words (n + 8) x) ≡ schedule_words key (n + 1)
unfolding schedule_words
schedule_words_more key words n t x h e et ex =
    let count : n + 1 + 8 ≡ n + 8 + 1 = omega arith in
    let first : get_or (schedule_words key n) n [] ≡ get_or words n [] = ap (λ v. get_or v n []) (sym e) ∙ get_or-take (n + 8) words n [] (omega arith) in
    let last : get_or (schedule_words key n) (n + 7) [] ≡ get_or words (n + 7) [] = ap (λ v. get_or v (n + 7) []) (sym e) ∙ get_or-take (n + 8) words (n + 7) [] (omega arith) in
    rw (count, take_more_set words (n + 8) x h, e, ex, et, ← first, ← last, add-one n)

-- all words of the schedule
pub all_words : (key : List ℕ) (words : List (List ℕ)) (n : ℕ) → n ≡ 52 → length words ≡ 60 → take (n + 8) words ≡ schedule_words key n → words ≡ schedule_words key 52
all_words key words n all long e = sym (take_all 60 words (omega arith)) ∙ rw all at e

-- ---- the key again

-- the first a + m elements, in two parts
pub take_on : (xs : List ℕ) (a m n : ℕ) → n ≡ a + m → take n xs ≡ take a xs ++ take m (drop a xs)
take_on xs a m n e =
    rw e (sym (rw (take-take a (a + m) xs (omega arith), drop-take a m xs) at (take-append-drop a (take (a + m) xs))))

-- one more word
concat_push : (xs : List (List ℕ)) (x : List ℕ) → concat (xs ++ x ∷ []) ≡ concat xs ++ x
concat_push [] x = append-nil x
concat_push (y ∷ xs) x = rw (concat_push xs x) (sym (append_assoc y (concat xs) x))

concat-key_words : (key : List ℕ) (n : ℕ) → concat (key_words key n) ≡ take (4 * n) key
unfolding key_words
concat-key_words key zero = refl
concat-key_words key (suc n) =
    concat_push (key_words key n) _ ∙ rw (concat-key_words key n) (sym (take_on key (4 * n) 4 (4 * suc n) (omega arith)))

take-schedule_words : (key : List ℕ) (n : ℕ) → take 8 (schedule_words key n) ≡ key_words key 8
unfolding schedule_words
take-schedule_words key zero = take_all 8 _ (omega (arith, length-key_words key 8))
take-schedule_words key (suc n) =
    take-append-le 8 (schedule_words key n) _ (omega (arith, length-schedule_words key n)) ∙ take-schedule_words key n

pub key_of-schedule_words : (key : List ℕ) (n : ℕ) → length key ≡ 32 → key_of (schedule_words key n) ≡ key
key_of-schedule_words key n h = ap concat (take-schedule_words key n) ∙ concat-key_words key 8 ∙ take_all 32 key (omega arith)

-- the first four bytes of a state that begins with a word, after SubBytes, are SubWord of it
pub sub_word_in_state : (word : List ℕ) → length word ≡ 4
    → (state : List ℕ) → state ≡ sub_bytes (slice_index_or word 0 0 ∷ slice_index_or word 1 0 ∷ slice_index_or word 2 0 ∷ slice_index_or word 3 0
    ∷ 0 ∷ 0 ∷ 0 ∷ 0 ∷ 0 ∷ 0 ∷ 0 ∷ 0 ∷ 0 ∷ 0 ∷ 0 ∷ 0 ∷ [])
    → slice_index_or state 0 0 ∷ slice_index_or state 1 0 ∷ slice_index_or state 2 0 ∷ slice_index_or state 3 0 ∷ [] ≡ sub_word word
unfolding sub_bytes
sub_word_in_state (a ∷ b ∷ c ∷ d ∷ []) four state is = rw is refl
sub_word_in_state [] four state is = absurd (omega arith)
sub_word_in_state (a ∷ []) four state is = absurd (omega arith)
sub_word_in_state (a ∷ b ∷ []) four state is = absurd (omega arith)
sub_word_in_state (a ∷ b ∷ c ∷ []) four state is = absurd (omega arith)
sub_word_in_state (a ∷ b ∷ c ∷ d ∷ e ∷ word) four state is = absurd (omega arith)
