-- Words of 64 bits as numbers, and lists of them.
use Rattle.std.specs.Prelude.{ℕ, zero, suc, ◌+◌, ◌%◌, ◌^◌, List, [], ◌∷◌, map, drop, slice_index, slice_set}
use Rattle.std.specs.List.{flat_map}
use Rattle.byteorder.specs.Endian.{little_number, little_bytes}

-- the sum of two words, modulo 2^64 (RFC 7693, 3.1)
abbrev pub word_sum : ℕ → ℕ → ℕ
word_sum x y = (x + y) % 2 ^ 64

-- the first n words of a list of bytes, 8 bytes a word, the lowest byte first (RFC 7693, 2.4)
unfoldable pub words : ℕ → List ℕ → List ℕ
words zero bytes = []
words (suc n) bytes = little_number 8 bytes ∷ words n (drop 8 bytes)

-- the bytes of a list of words, 8 bytes a word, the lowest byte first (RFC 7693, 2.4)
abbrev pub bytes_of_words : List ℕ → List ℕ
bytes_of_words ws = flat_map (little_bytes 8) ws

-- the words of v at a list of places
abbrev pub words_at : List ℕ → List ℕ → List ℕ
words_at v places = map (slice_index v) places

-- v with the words ws in place of those at a list of places
abbrev pub with_words_at : List ℕ → List ℕ → List ℕ → List ℕ
with_words_at v [] ws = v
with_words_at v (p ∷ places) [] = v
with_words_at v (p ∷ places) (w ∷ ws) = with_words_at (slice_set v p w) places ws

-- v with its words at a list of places replaced by what f makes of them
abbrev pub along : (List ℕ → List ℕ) → List ℕ → List ℕ → List ℕ
along f v places = with_words_at v places (f (words_at v places))
