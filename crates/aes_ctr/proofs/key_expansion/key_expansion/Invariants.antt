use Rattle.std.proofs.Common.{◌≡◌, ◌+◌, length, take}
use Rattle.aes_ctr.specs.Aes.{key_words, schedule_words}
use Rattle.aes_ctr.proofs.key_expansion.key_expansion.Given as goal

abbrev pub invariant-key : goal.invariant-key
invariant-key l = (length l.words ≡ 60) × (take l.i l.words ≡ key_words l.key l.i)

abbrev pub invariant-more : goal.invariant-more
invariant-more l = (length l.words ≡ 60) × (take (l.n + 8) l.words ≡ schedule_words l.key l.n)
