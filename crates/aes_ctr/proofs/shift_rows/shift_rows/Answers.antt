use Rattle.std.proofs.Common.{◌≡◌, refl, ◌++◌, ◌∷◌, []}
use lib.Lanes.{pick_l}
use Rattle.aes_ctr.specs.Aes.{shift_rows}
use Rattle.aes_ctr.proofs.Sixteen.{sixteen_lanes}
use Rattle.aes_ctr.proofs.shift_rows.shift_rows.Goals as goal

pub returns : goal.returns
unfolding shift_rows
returns c = record {
  state =
      sixteen_lanes (λ x. pick_l 0 (x ++ x) (0 ∷ 5 ∷ 10 ∷ 15 ∷ 4 ∷ 9 ∷ 14 ∷ 3 ∷ 8 ∷ 13 ∷ 2 ∷ 7 ∷ 12 ∷ 1 ∷ 6 ∷ 11 ∷ []) ≡ shift_rows x)
      (λ x0 x1 x2 x3 x4 x5 x6 x7 x8 x9 x10 x11 x12 x13 x14 x15. refl) c.args.state c.fits-state.0;
}
