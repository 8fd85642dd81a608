use Rattle.std.proofs.Common.{◌≡◌, ℕ, ◌+◌, ◌-◌, ◌*◌, ◌/◌, ◌%◌, ◌^◌, ◌<◌, List, [], ◌∷◌, bit_and}
use Rattle.aes_ctr.specs.Planes.{bits, plane}
use Rattle.aes_ctr.specs.Inside.PlaneSteps.{IsBlockPair, bit_before, plane_before}
use Rattle.aes_ctr.proofs.Held.{below_eight}
use Rattle.aes_ctr.proofs.Swapped.{from_planes, lower_parts, upper_parts}
use Rattle.aes_ctr.proofs.transposition.exchanged.Goals as goal

pub returns : goal.returns
returns c =
    let planes : List (List ℕ) = c.args.planes in
    let d : ℕ = c.args.distance in
    let low : ℕ = c.args.low in
    let lower_from = from_planes d (λ a. bit_and a low) (λ a. bit_and a low * 2 ^ d % 256) (λ b. b) (λ b. b - d) (lower_parts d low c.requires.low) in
    let upper_from = from_planes d (λ a. bit_and (a / 2 ^ d) low) (λ a. bit_and a (255 - low)) (λ b. b + d) (λ b. b) (upper_parts d low c.requires.low) in
    record {
      exchanged =
          λ b k hb hk. below_eight (λ k. (b : ℕ) → b < 8 → bits b (plane (c.merged_lower_bits.result ∷ c.merged_lower_bits-2.result ∷ c.merged_lower_bits-3.result ∷ c.merged_lower_bits-4.result ∷ c.merged_upper_bits.result ∷ c.merged_upper_bits-2.result ∷ c.merged_upper_bits-3.result ∷ c.merged_upper_bits-4.result ∷ []) k) ≡ bits (bit_before d b k) (plane planes (plane_before d b k)))
          (lower_from 0 1 planes c.merged_lower_bits.result c.merged_lower_bits.ensures.merged.taken)
          (lower_from 2 3 planes c.merged_lower_bits-2.result c.merged_lower_bits-2.ensures.merged.taken)
          (lower_from 4 5 planes c.merged_lower_bits-3.result c.merged_lower_bits-3.ensures.merged.taken)
          (lower_from 6 7 planes c.merged_lower_bits-4.result c.merged_lower_bits-4.ensures.merged.taken)
          (upper_from 0 1 planes c.merged_upper_bits.result c.merged_upper_bits.ensures.merged.taken)
          (upper_from 2 3 planes c.merged_upper_bits-2.result c.merged_upper_bits-2.ensures.merged.taken)
          (upper_from 4 5 planes c.merged_upper_bits-3.result c.merged_upper_bits-3.ensures.merged.taken)
          (upper_from 6 7 planes c.merged_upper_bits-4.result c.merged_upper_bits-4.ensures.merged.taken)
          k hk b hb;
      bytes =
          below_eight (λ k. IsBlockPair (plane planes k) × IsBlockPair (plane (c.merged_lower_bits.result ∷ c.merged_lower_bits-2.result ∷ c.merged_lower_bits-3.result ∷ c.merged_lower_bits-4.result ∷ c.merged_upper_bits.result ∷ c.merged_upper_bits-2.result ∷ c.merged_upper_bits-3.result ∷ c.merged_upper_bits-4.result ∷ []) k))
          (c.merged_lower_bits.ensures.merged.pairs.0, c.merged_lower_bits.ensures.merged.pairs.2)
          (c.merged_lower_bits.ensures.merged.pairs.1, c.merged_lower_bits-2.ensures.merged.pairs.2)
          (c.merged_lower_bits-2.ensures.merged.pairs.0, c.merged_lower_bits-3.ensures.merged.pairs.2)
          (c.merged_lower_bits-2.ensures.merged.pairs.1, c.merged_lower_bits-4.ensures.merged.pairs.2)
          (c.merged_lower_bits-3.ensures.merged.pairs.0, c.merged_upper_bits.ensures.merged.pairs.2)
          (c.merged_lower_bits-3.ensures.merged.pairs.1, c.merged_upper_bits-2.ensures.merged.pairs.2)
          (c.merged_lower_bits-4.ensures.merged.pairs.0, c.merged_upper_bits-3.ensures.merged.pairs.2)
          (c.merged_lower_bits-4.ensures.merged.pairs.1, c.merged_upper_bits-4.ensures.merged.pairs.2);
    }
