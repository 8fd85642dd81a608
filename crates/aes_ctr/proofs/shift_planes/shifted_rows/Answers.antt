use Rattle.std.proofs.Common.{◌≡◌, List, ℕ, length, drop, take, refl, ◌++◌, ◌∷◌, ◌∙◌, []}
use lib.Lanes.{pick_l}
use Rattle.aes_ctr.proofs.Pairs.{thirty_two_lanes}
use Rattle.aes_ctr.proofs.shift_planes.shifted_rows.Goals as goal

first_block : (x : List ℕ) → length x ≡ 32 → pick_l 0 (x ++ x) (0 ∷ 1 ∷ 2 ∷ 3 ∷ 4 ∷ 5 ∷ 6 ∷ 7 ∷ 8 ∷ 9 ∷ 10 ∷ 11 ∷ 12 ∷ 13 ∷ 14 ∷ 15 ∷ []) ≡ take 16 x
first_block = thirty_two_lanes (λ x. pick_l 0 (x ++ x) (0 ∷ 1 ∷ 2 ∷ 3 ∷ 4 ∷ 5 ∷ 6 ∷ 7 ∷ 8 ∷ 9 ∷ 10 ∷ 11 ∷ 12 ∷ 13 ∷ 14 ∷ 15 ∷ []) ≡ take 16 x)
    (λ x0 x1 x2 x3 x4 x5 x6 x7 x8 x9 x10 x11 x12 x13 x14 x15 x16 x17 x18 x19 x20 x21 x22 x23 x24 x25 x26 x27 x28 x29 x30 x31. refl)

second_block : (x : List ℕ) → length x ≡ 32 → pick_l 0 (x ++ x) (16 ∷ 17 ∷ 18 ∷ 19 ∷ 20 ∷ 21 ∷ 22 ∷ 23 ∷ 24 ∷ 25 ∷ 26 ∷ 27 ∷ 28 ∷ 29 ∷ 30 ∷ 31 ∷ []) ≡ drop 16 x
second_block = thirty_two_lanes (λ x. pick_l 0 (x ++ x) (16 ∷ 17 ∷ 18 ∷ 19 ∷ 20 ∷ 21 ∷ 22 ∷ 23 ∷ 24 ∷ 25 ∷ 26 ∷ 27 ∷ 28 ∷ 29 ∷ 30 ∷ 31 ∷ []) ≡ drop 16 x)
    (λ x0 x1 x2 x3 x4 x5 x6 x7 x8 x9 x10 x11 x12 x13 x14 x15 x16 x17 x18 x19 x20 x21 x22 x23 x24 x25 x26 x27 x28 x29 x30 x31. refl)

pub returns : goal.returns
returns c = record {
  rows = c.joined.ensures.pair
      ∙ rw (
        c.shift_rows.ensures.state,
        c.shift_rows-2.ensures.state,
        first_block c.args.plane c.fits-plane.0,
        second_block c.args.plane c.fits-plane.0,
      ) refl;
}
