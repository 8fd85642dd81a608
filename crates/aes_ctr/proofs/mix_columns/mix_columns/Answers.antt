use Rattle.std.proofs.Common.{◌≡◌, [], ◌∷◌, ◌++◌, bit_xor, map, refl, ◌∙◌}
use lib.Lanes.{pick_l, zip2}
use Rattle.aes_ctr.specs.Aes.{mix_columns, product}
use Rattle.aes_ctr.proofs.Columns.{by_columns, by_columns-agreeing, doubles_column, doubles_column-is, matrix_column}
use Rattle.aes_ctr.proofs.Sixteen.{sixteen_lanes}
use Rattle.aes_ctr.proofs.mix_columns.mix_columns.Goals as goal

pub returns : goal.returns
unfolding mix_columns
returns c = record {
  state =
      rw c.double-twice.ensures.doubles
      (sixteen_lanes (λ x. zip2 bit_xor
      (zip2 bit_xor (map (product 2) x) (pick_l 0 (zip2 bit_xor x (map (product 2) x) ++ zip2 bit_xor x (map (product 2) x)) (1 ∷ 2 ∷ 3 ∷ 0 ∷ 5 ∷ 6 ∷ 7 ∷ 4 ∷ 9 ∷ 10 ∷ 11 ∷ 8 ∷ 13 ∷ 14 ∷ 15 ∷ 12 ∷ [])))
      (zip2 bit_xor (pick_l 0 (x ++ x) (2 ∷ 3 ∷ 0 ∷ 1 ∷ 6 ∷ 7 ∷ 4 ∷ 5 ∷ 10 ∷ 11 ∷ 8 ∷ 9 ∷ 14 ∷ 15 ∷ 12 ∷ 13 ∷ []))
      (pick_l 0 (x ++ x) (3 ∷ 0 ∷ 1 ∷ 2 ∷ 7 ∷ 4 ∷ 5 ∷ 6 ∷ 11 ∷ 8 ∷ 9 ∷ 10 ∷ 15 ∷ 12 ∷ 13 ∷ 14 ∷ []))) ≡ by_columns doubles_column x)
      (λ x0 x1 x2 x3 x4 x5 x6 x7 x8 x9 x10 x11 x12 x13 x14 x15. refl) c.args.state c.fits-state.0
      ∙ by_columns-agreeing doubles_column matrix_column doubles_column-is c.args.state c.fits-state.1
      ∙ sixteen_lanes (λ x. by_columns matrix_column x ≡ mix_columns x) (λ x0 x1 x2 x3 x4 x5 x6 x7 x8 x9 x10 x11 x12 x13 x14 x15. refl) c.args.state c.fits-state.0);
}
