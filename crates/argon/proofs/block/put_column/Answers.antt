use Rattle.std.proofs.Common.{◌≡◌, ℕ, ◌+◌, ◌*◌, List, ◌++◌, ap, arith, ◌∙◌}
use Rattle.blake.specs.Words.{with_words_at}
use Rattle.argon.specs.Compression.{column_places}
use Rattle.argon.specs.Inside.FourWords.{pair_places}
use Rattle.std.specs.List.{range_with_len}
use lib.Lanes.{pick_l}
use Rattle.std.proofs.lemmas.Simd.{pick_l_whole}
use Rattle.argon.proofs.block.put_column.Goals as goal

-- the pairs of four vectors are those of the column
pairs_are : (n : ℕ) → pair_places (2 * n) ++ (pair_places (2 * n + 32) ++ (pair_places (2 * n + 64) ++ pair_places (2 * n + 96))) ≡ column_places n
pairs_are n =
    let e0 : 2 * n ≡ 2 * n + 0 = omega arith in
    let e1 : 2 * n + 17 ≡ 2 * n + 16 + 1 = omega arith in
    let e2 : 2 * n + 32 + 16 ≡ 2 * n + 48 = omega arith in
    let e3 : 2 * n + 32 + 17 ≡ 2 * n + 48 + 1 = omega arith in
    let e4 : 2 * n + 64 + 16 ≡ 2 * n + 80 = omega arith in
    let e5 : 2 * n + 64 + 17 ≡ 2 * n + 80 + 1 = omega arith in
    let e6 : 2 * n + 96 + 16 ≡ 2 * n + 112 = omega arith in
    let e7 : 2 * n + 96 + 17 ≡ 2 * n + 112 + 1 = omega arith in
    cc

pub returns : goal.returns
returns c =
    let block = c.args.block.now in
    let n : ℕ = c.args.number in
    record {
      value = rw (
        c.put_two_pairs-4.ensures.value,
        c.put_two_pairs-3.ensures.value,
        c.put_two_pairs-2.ensures.value,
        c.put_two_pairs.ensures.value,
        c.quarters.ensures.value,
      )
          (ap (λ (places : List ℕ). with_words_at block places (pick_l 0 c.args.new (range_with_len 0 16))) (pairs_are n)
          ∙ ap (with_words_at block (column_places n)) (pick_l_whole 0 c.args.new 16 c.fits-new.0));
    }
