use Rattle.std.proofs.Common.{◌≡◌, refl, ◌++◌, ◌∷◌, []}
use lib.Lanes.{pick_l}
use Rattle.aes_ctr.specs.Inside.PlaneSteps.{applied_to_both_blocks, row_below_in_plane}
use Rattle.aes_ctr.proofs.Pairs.{thirty_two_lanes}
use Rattle.aes_ctr.proofs.mix_planes.row_below_in_plane.Goals as goal

pub returns : goal.returns
unfolding row_below_in_plane
returns c = record {
  rows =
      thirty_two_lanes (λ x. pick_l 0 (x ++ x) (1 ∷ 2 ∷ 3 ∷ 0 ∷ 5 ∷ 6 ∷ 7 ∷ 4 ∷ 9 ∷ 10 ∷ 11 ∷ 8 ∷ 13 ∷ 14 ∷ 15 ∷ 12 ∷ 17 ∷ 18 ∷ 19 ∷ 16 ∷ 21 ∷ 22 ∷ 23 ∷ 20 ∷ 25 ∷ 26 ∷ 27 ∷ 24 ∷ 29 ∷ 30 ∷ 31 ∷ 28 ∷ []) ≡ applied_to_both_blocks row_below_in_plane x)
      (λ x0 x1 x2 x3 x4 x5 x6 x7 x8 x9 x10 x11 x12 x13 x14 x15 x16 x17 x18 x19 x20 x21 x22 x23 x24 x25 x26 x27 x28 x29 x30 x31. refl) c.args.plane c.fits-plane.0;
}
