-- Lists of words, whatever the size of a word.
use Rattle.std.specs.Prelude.{ℕ, List, bit_xor}
use Rattle.std.specs.Simd.Lanes.{zip2}

-- the words of two lists, xored one by one
abbrev pub xored_words : List ℕ → List ℕ → List ℕ
xored_words = zip2 bit_xor
