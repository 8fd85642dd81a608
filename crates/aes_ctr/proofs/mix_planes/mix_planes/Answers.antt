use Rattle.std.proofs.Common.{◌≡◌, ◌++◌, ℕ, List, bit_xor, length, map, sym, ◌∙◌}
use lib.Lanes.{zip2}
use Rattle.std.proofs.lemmas.List.{length-map, map-append}
use Rattle.aes_ctr.specs.Aes.{product}
use Rattle.aes_ctr.specs.Planes.{IsAesBlock, BitPlanesHoldBytes}
use Rattle.aes_ctr.specs.Inside.PlaneSteps.{row_below_in_plane}
use Rattle.aes_ctr.proofs.Blocks.{AreBytes-xor, IsAesBlock-row_below_in_plane}
use Rattle.aes_ctr.proofs.Doubles.{mix_columns-pairs, pairs}
use Rattle.aes_ctr.proofs.Pairs.{IsBlockPair-append, zip2-append}
use Rattle.aes_ctr.proofs.mix_planes.mix_planes.Goals as goal

sums : (block : List ℕ) → IsAesBlock block → IsAesBlock (pairs block)
sums block ok = AreBytes-xor block (row_below_in_plane block) ok (IsAesBlock-row_below_in_plane block ok)

below_twice : (block : List ℕ) → IsAesBlock block → IsAesBlock (row_below_in_plane (row_below_in_plane (pairs block)))
below_twice block ok = IsAesBlock-row_below_in_plane (row_below_in_plane (pairs block)) (IsAesBlock-row_below_in_plane (pairs block) (sums block ok))

-- the bytes below and those two rows below, of sums
abbrev below : List ℕ → List ℕ
below block = zip2 bit_xor (row_below_in_plane block) (row_below_in_plane (row_below_in_plane (pairs block)))

length-below : (block : List ℕ) → IsAesBlock block → length (below block) ≡ 16
length-below block ok =
    (AreBytes-xor (row_below_in_plane block) (row_below_in_plane (row_below_in_plane (pairs block))) (IsAesBlock-row_below_in_plane block ok) (below_twice block ok)).0

length-doubled : (block : List ℕ) → IsAesBlock block → length (map (product 2) (pairs block)) ≡ 16
length-doubled block ok = length-map (pairs block) (product 2) ∙ (sums block ok).0

pub returns : goal.returns
returns c = record {
  held =
      λ b first second ok also held.
      let one : IsAesBlock (row_below_in_plane first) = IsAesBlock-row_below_in_plane first ok in
      let two : IsAesBlock (row_below_in_plane (row_below_in_plane (pairs first))) = below_twice first ok in
      let next : BitPlanesHoldBytes b c.row_below_planes-next.result (row_below_in_plane first ++ row_below_in_plane second) = c.row_below_planes-next.ensures.held b first second ok also held in
      let pair : BitPlanesHoldBytes b c.xor_planes-pairs.result (pairs first ++ pairs second) =
      rw (zip2-append bit_xor first second (row_below_in_plane first) (row_below_in_plane second) (ok.0 ∙ sym one.0))
      at (c.xor_planes-pairs.ensures.held b (first ++ second) (row_below_in_plane first ++ row_below_in_plane second) held next) in
      let doubled : BitPlanesHoldBytes b c.double_planes.result (map (product 2) (pairs first) ++ map (product 2) (pairs second)) =
      rw (map-append (product 2) (pairs first) (pairs second))
      at (c.double_planes.ensures.held b (pairs first ++ pairs second) (IsBlockPair-append (pairs first) (pairs second) (sums first ok) (sums second also)) pair) in
      let last : BitPlanesHoldBytes b c.xor_planes.result (below first ++ below second) =
      rw (zip2-append bit_xor (row_below_in_plane first) (row_below_in_plane second) (row_below_in_plane (row_below_in_plane (pairs first))) (row_below_in_plane (row_below_in_plane (pairs second))) (one.0 ∙ sym two.0))
      at (c.xor_planes.ensures.held b (row_below_in_plane first ++ row_below_in_plane second) (row_below_in_plane (row_below_in_plane (pairs first)) ++ row_below_in_plane (row_below_in_plane (pairs second))) next
      (c.row_below_planes-last.ensures.held b (row_below_in_plane (pairs first)) (row_below_in_plane (pairs second))
      (IsAesBlock-row_below_in_plane (pairs first) (sums first ok)) (IsAesBlock-row_below_in_plane (pairs second) (sums second also))
      (c.row_below_planes.ensures.held b (pairs first) (pairs second) (sums first ok) (sums second also) pair))) in
      rw (
        zip2-append bit_xor (map (product 2) (pairs first)) (map (product 2) (pairs second)) (below first) (below second)
            (length-doubled first ok ∙ sym (length-below first ok)),
        mix_columns-pairs first ok,
        mix_columns-pairs second also,
      )
      at (c.xor_planes-2.ensures.held b (map (product 2) (pairs first) ++ map (product 2) (pairs second)) (below first ++ below second) doubled last);
}
