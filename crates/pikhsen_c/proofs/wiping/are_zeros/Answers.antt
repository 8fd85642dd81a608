use Rattle.std.proofs.Common.{◌≡◌, ◌∷◌, ◌-◌, ◌*◌, ◌/◌, ◌<◌, ◌≤◌, ℕ, List, [], zero, suc, arith, ap, refl, length, replicate, slice_index_or}
use Rattle.std.proofs.lemmas.List.{take-replicate, drop-replicate, get_or-replicate}
use Rattle.std.specs.Simd.{first_chunks}
use Rattle.pikhsen_c.proofs.wiping.are_zeros.Goals as goal

chunks_of_zeros : (n k len : ℕ) → k * n ≤ len → first_chunks {X = ℕ} n k (replicate len 0) ≡ replicate k (replicate n 0)
chunks_of_zeros n zero len room = refl
chunks_of_zeros n (suc k) len room =
    rw (take-replicate {X = ℕ} n len 0 (omega arith), drop-replicate {X = ℕ} n len 0)
    (ap (λ (others : List (List ℕ)). replicate n 0 ∷ others) (chunks_of_zeros n k (len - n) (omega arith)))

block_of_zeros : (words : List ℕ) (n k i : ℕ) → words ≡ replicate (length words) 0 → k * n ≤ length words → i < k
    → slice_index_or (first_chunks {X = ℕ} n k words) i [] ≡ replicate n 0
block_of_zeros words n k i zeros room inside =
    rw (zeros, chunks_of_zeros n k (length words) room) (get_or-replicate k i (replicate n 0) [] inside)

pub loop-block-preserved : goal.loop-block-preserved
loop-block-preserved c = λ zeros.
    let words : List ℕ = c.args.words.now in
    let i : ℕ = c.loop-block.block-index in
    rw (
      c.loop-block.invariant zeros,
      c.as_chunks.ensures.front,
      block_of_zeros words 64 (length words / 64) i zeros (omega arith) (omega arith),
    )
    refl
