use Rattle.std.proofs.Common.{◌<◌, ℕ, List, arith, bit_and, refl, replicate, w8}
use lib.Bits.{and_le_r}
use lib.Lanes.{zip2}
use Rattle.std.proofs.lemmas.Simd.{Each1-all, Each1-zip2, Each2-splat, SwzOk-from_below, length-zip2}
use Rattle.aes_ctr.proofs.Lookup.{swz_l-row}
use Rattle.aes_ctr.proofs.sub_bytes.s_box_sixteenth_lookup.Goals as goal

pub swizzle : goal.swizzle
swizzle c =
    let x : List ℕ = c.args.bytes in
    SwzOk-from_below w8 16 1 16 0 (zip2 bit_and x (replicate 16 15)) refl
    (omega (arith, length-zip2 bit_and x (replicate 16 15) c.fits-bytes.0, c.fits-bytes.0))
    (Each1-zip2 bit_and (λ j. j < 16) x (replicate 16 15)
    (Each2-splat (λ a b. bit_and a b < 16) x 16 15 (Each1-all (λ a. bit_and a 15 < 16) (λ a. omega (arith, and_le_r a 15)) x)))

pub returns : goal.returns
returns c = record {
  entries =
      rw c.row.ensures.entries (swz_l-row c.args.n c.args.bytes c.fits-bytes.0 c.fits-bytes.1);
}
