use Rattle.std.proofs.Common.{ℕ, List, ◌+◌, arith, ap, sym, ◌∙◌, ◌<◌, ◌≡◌}
use Rattle.blake.specs.Words.{along}
use Rattle.argon.specs.Compression.{column_places, permutation}
use Rattle.argon.proofs.WordPlaces.{column_kept, placed}
use Rattle.argon.proofs.compression.permute_four_columns.Goals as goal

pub returns : goal.returns
returns c = record {
  value = let i : ℕ = c.args.first in
      let v : List ℕ = c.args.block.now in
      let w : List ℕ = c.put_column.new.block in
      let x : List ℕ = c.put_column-2.new.block in
      let y : List ℕ = c.put_column-3.new.block in
      let kept = λ (j : ℕ) (h : j < 8) (e : j ≡ i → ⊥). column_kept v w c.permute.result.0 i j (omega arith) h e c.put_column.ensures.value in
      let kept_two = λ (j : ℕ) (h : j < 8) (e : j ≡ i + 1 → ⊥). column_kept w x c.permute.result.1 (i + 1) j (omega arith) h e c.put_column-2.ensures.value in
      let three_kept = column_kept x y c.permute.result.2 (i + 2) (i + 3) (omega arith) (omega arith) (λ e. absurd (omega arith)) c.put_column-3.ensures.value in
      let one = placed v v w _ _ (column_places i) c.column.ensures.value c.permute.ensures.first c.put_column.ensures.value in
      let two = placed w w x _ _ (column_places (i + 1)) (c.column-2.ensures.value ∙ sym (kept (i + 1) (omega arith) (λ e. absurd (omega arith)))) c.permute.ensures.second c.put_column-2.ensures.value in
      let three = placed x x y _ _ (column_places (i + 2)) (c.column-3.ensures.value ∙ sym (kept_two (i + 2) (omega arith) (λ e. absurd (omega arith)) ∙ kept (i + 2) (omega arith) (λ e. absurd (omega arith)))) c.permute.ensures.third c.put_column-3.ensures.value in
      let four = placed y y c.put_column-4.new.block _ _ (column_places (i + 3)) (c.column-4.ensures.value ∙ sym (three_kept ∙ kept_two (i + 3) (omega arith) (λ e. absurd (omega arith)) ∙ kept (i + 3) (omega arith) (λ e. absurd (omega arith)))) c.permute.ensures.fourth c.put_column-4.ensures.value in
      four ∙ ap (λ (u : List ℕ). along permutation u (column_places (i + 3)))
      (three ∙ ap (λ (u : List ℕ). along permutation u (column_places (i + 2)))
      (two ∙ ap (λ (u : List ℕ). along permutation u (column_places (i + 1))) one));
}
