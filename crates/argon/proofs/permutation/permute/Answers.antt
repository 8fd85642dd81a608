use Rattle.std.proofs.Common.{◌≡◌, ap, lit<, sym, ◌∙◌}
use Rattle.std.proofs.lemmas.Simd.{pick_l_whole}
use Rattle.argon.specs.Compression.{permutation}
use Rattle.argon.specs.Inside.FourWords.{FourLists, list_at}
use Rattle.argon.proofs.FourWords.{permuted_is}
use Rattle.argon.proofs.permutation.permute.Goals as goal

pub returns-clause-first : goal.returns-clause-first
returns-clause-first c =
    let list : list_at 0 c.transposed.result ≡ c.args.one = rw c.transposed.ensures.value (pick_l_whole 0 c.args.one 16 c.fits-one.0) in
    ap (λ (lists : FourLists). lists.0) c.transposed-2.ensures.value ∙ (rw c.to_columns.ensures.columns
    (sym (permuted_is _ _ _ c.mix-mixed.ensures.value (rw c.to_diagonals.ensures.diagonals at c.mix-mixed-2.ensures.value) 0 (lit< tt)))
    ∙ ap permutation list)

pub returns-clause-second : goal.returns-clause-second
returns-clause-second c =
    let list : list_at 1 c.transposed.result ≡ c.args.two = rw c.transposed.ensures.value (pick_l_whole 0 c.args.two 16 c.fits-two.0) in
    ap (λ (lists : FourLists). lists.1) c.transposed-2.ensures.value ∙ (rw c.to_columns.ensures.columns
    (sym (permuted_is _ _ _ c.mix-mixed.ensures.value (rw c.to_diagonals.ensures.diagonals at c.mix-mixed-2.ensures.value) 1 (lit< tt)))
    ∙ ap permutation list)

pub returns-clause-third : goal.returns-clause-third
returns-clause-third c =
    let list : list_at 2 c.transposed.result ≡ c.args.three = rw c.transposed.ensures.value (pick_l_whole 0 c.args.three 16 c.fits-three.0) in
    ap (λ (lists : FourLists). lists.2) c.transposed-2.ensures.value ∙ (rw c.to_columns.ensures.columns
    (sym (permuted_is _ _ _ c.mix-mixed.ensures.value (rw c.to_diagonals.ensures.diagonals at c.mix-mixed-2.ensures.value) 2 (lit< tt)))
    ∙ ap permutation list)

pub returns-clause-fourth : goal.returns-clause-fourth
returns-clause-fourth c =
    let list : list_at 3 c.transposed.result ≡ c.args.four = rw c.transposed.ensures.value (pick_l_whole 0 c.args.four 16 c.fits-four.0) in
    ap (λ (lists : FourLists). lists.3) c.transposed-2.ensures.value ∙ (rw c.to_columns.ensures.columns
    (sym (permuted_is _ _ _ c.mix-mixed.ensures.value (rw c.to_diagonals.ensures.diagonals at c.mix-mixed-2.ensures.value) 3 (lit< tt)))
    ∙ ap permutation list)
