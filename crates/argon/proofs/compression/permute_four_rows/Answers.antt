use Rattle.std.proofs.Common.{ℕ, ◌+◌, List, ap, ◌∙◌}
use Rattle.argon.specs.Compression.{row_places}
use Rattle.argon.specs.Inside.FourWords.{with_row_permuted}
use Rattle.argon.proofs.WordPlaces.{placed}
use Rattle.argon.proofs.compression.permute_four_rows.Goals as goal

pub returns : goal.returns
returns c = record {
  value = let i : ℕ = c.args.first in
      let v : List ℕ = c.args.from.now in
      let one = placed v c.args.into.now c.put_row.new.block _ _ (row_places i) c.row.ensures.value c.permute.ensures.first c.put_row.ensures.value in
      let two = placed v c.put_row.new.block c.put_row-2.new.block _ _ (row_places (i + 1)) c.row-2.ensures.value c.permute.ensures.second c.put_row-2.ensures.value in
      let three = placed v c.put_row-2.new.block c.put_row-3.new.block _ _ (row_places (i + 2)) c.row-3.ensures.value c.permute.ensures.third c.put_row-3.ensures.value in
      let four = placed v c.put_row-3.new.block c.put_row-4.new.block _ _ (row_places (i + 3)) c.row-4.ensures.value c.permute.ensures.fourth c.put_row-4.ensures.value in
      four ∙ ap (λ (w : List ℕ). with_row_permuted v w (i + 3))
      (three ∙ ap (λ (w : List ℕ). with_row_permuted v w (i + 2))
      (two ∙ ap (λ (w : List ℕ). with_row_permuted v w (i + 1)) one));
}
