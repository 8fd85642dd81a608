-- The chain of BlockMix and its even and odd outputs, turn by turn.
use Rattle.std.proofs.Common.{◌≡◌, ℕ, ◌+◌, ◌*◌, ◌/◌, List, ◌++◌, add-one}
use Rattle.romix.specs.Salsa20.{salsa20_8}
use Rattle.four_words.specs.Words.{xored_words}
use Rattle.romix.specs.BlockMix.{block_at, block_count, block_mix_x_after, every_second_output, block_mix}

-- one more turn of the chain: t is x xor block o, and z its core
pub chain_more : (b x t z o : List ℕ) (i j : ℕ) → x ≡ block_mix_x_after b i → o ≡ block_at b i → t ≡ xored_words x o → z ≡ salsa20_8 t → j ≡ i + 1 → z ≡ block_mix_x_after b j
unfolding block_mix_x_after
chain_more b x t z o i j hx ho ht hz e = rw (e, add-one i, hz, ht, ho, hx)

-- one more output
pub every_second_more : (b e x : List ℕ) (s i k : ℕ) → e ≡ every_second_output b s i → x ≡ block_mix_x_after b k → k ≡ s + 2 * i + 1 → e ++ x ≡ every_second_output b s (i + 1)
unfolding every_second_output
every_second_more b e x s i k he hx h = rw (he, hx, h, add-one i, add-one (s + 2 * i))

-- the even outputs, and then the odd ones
pub mix_is : (b e o : List ℕ) (n : ℕ) → n ≡ block_count b / 2 → e ≡ every_second_output b 0 n → o ≡ every_second_output b 1 n → e ++ o ≡ block_mix b
unfolding block_mix
mix_is b e o n h he ho = rw (he, ho, h)
