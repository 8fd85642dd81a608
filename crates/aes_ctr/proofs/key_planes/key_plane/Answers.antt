use Rattle.std.proofs.Common.{◌≡◌, ℕ, ◌*◌, ◌%◌, ◌^◌, map, refl, w8}
use Rattle.std.proofs.lemmas.Simd.{below_from_Fits, splat_is_map}
use Rattle.aes_ctr.specs.Inside.TableParts.{choice}
use Rattle.aes_ctr.proofs.Held.{below_eight}
use Rattle.aes_ctr.proofs.Swapped.{bits-choice}
use Rattle.aes_ctr.proofs.key_planes.key_plane.Goals as goal

pub returns : goal.returns
returns c =
    let k : ℕ = c.args.k in
    let one_bit : 1 * 2 ^ k % 256 ≡ 2 ^ k = below_eight (λ k. 1 * 2 ^ k % 256 ≡ 2 ^ k) refl refl refl refl refl refl refl refl k c.requires.bit in
    let made : c.select_by_bit.result ≡ map (choice (2 ^ k) (λ _. 255) (λ _. 0)) c.args.key =
    rw one_bit at (c.select_by_bit.ensures.choice (λ _. 255) (λ _. 0) (splat_is_map c.args.key 16 255 c.fits-key.0) (splat_is_map c.args.key 16 0 c.fits-key.0)) in
    record {
      key = (c.fits-key.0, below_from_Fits w8 c.args.key c.fits-key.1);
      bits = λ b small. rw made (bits-choice b k small c.requires.bit c.args.key c.fits-key.1);
    }
