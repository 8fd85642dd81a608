use Rattle.std.proofs.Common.{◌≡◌, ℕ, ◌≤◌, length, take, slice_index}
use Rattle.four_words.specs.Words.{xored_words}
use Rattle.argon.proofs.tag.xor_into.Given as goal

abbrev pub invariant-loop-k : goal.invariant-loop-k
invariant-loop-k l =
    (length l.into ≡ 128) × (take l.k l.into ≡ xored_words (take l.k l.fn.into) (take l.k l.other))
    × ((j : ℕ) → l.k ≤ j → slice_index l.into j ≡ slice_index l.fn.into j)
