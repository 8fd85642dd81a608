use Rattle.std.proofs.Common.{ℕ, List}
use Rattle.aes_ctr.specs.Aes.{mix_columns, shift_rows, sub_bytes}
use Rattle.aes_ctr.specs.Planes.{IsAesBlock}
use Rattle.aes_ctr.proofs.Blocks.{IsAesBlock-mix_columns, IsAesBlock-shift_rows, IsAesBlock-sub_bytes}
use Rattle.aes_ctr.proofs.cipher_sixteen.round.Goals as goal

shifted : (block : List ℕ) → IsAesBlock block → IsAesBlock (shift_rows (sub_bytes block))
shifted block ok = IsAesBlock-shift_rows (sub_bytes block) (IsAesBlock-sub_bytes block ok)

pub returns : goal.returns
returns c = record {
  held =
      λ words b small key first second ok also state.
      c.add_planes.ensures.held words b key (mix_columns (shift_rows (sub_bytes first))) (mix_columns (shift_rows (sub_bytes second)))
      (IsAesBlock-mix_columns (shift_rows (sub_bytes first)) (shifted first ok)) (IsAesBlock-mix_columns (shift_rows (sub_bytes second)) (shifted second also))
      (c.mix_planes.ensures.held b (shift_rows (sub_bytes first)) (shift_rows (sub_bytes second)) (shifted first ok) (shifted second also)
      (c.shift_planes.ensures.held b (sub_bytes first) (sub_bytes second) (IsAesBlock-sub_bytes first ok) (IsAesBlock-sub_bytes second also)
      (c.sub_planes.ensures.held b small first second ok also state)));
}
