use Rattle.std.proofs.Common.{◌≡◌, ◌+◌, ◌-◌, ◌/◌, ◌≤◌, ℕ, List, arith, drop, length, refl, replicate, take}
use Rattle.std.proofs.lemmas.List.{drop-replicate, take-append-drop, take-replicate}
use Rattle.pikhsen_c.proofs.wiping.wipe_vector_registers.Goals as goal

zeros_again : (words : List ℕ) (part : ℕ) → words ≡ replicate (length words) 0 → part + part ≤ length words
    → take part (drop part words) ≡ take part words
zeros_again words part zeros room =
    let n : ℕ = length words in
    rw (
      zeros,
      drop-replicate {X = ℕ} part n 0,
      take-replicate {X = ℕ} part (n - part) 0 (omega arith),
      take-replicate {X = ℕ} part n 0 (omega arith),
    )
    refl

pub returns : goal.returns
returns c = record {
  zeros = λ zeros.
      let words : List ℕ = c.args.words.now in
      let part : ℕ = length words / 32 in
      rw (c.copy_from_slice.ensures.after, c.split_at_mut-first.ensures.back, zeros_again words part zeros (omega arith))
      (take-append-drop part words);
}
