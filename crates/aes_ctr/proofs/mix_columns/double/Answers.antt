use Rattle.std.proofs.Common.{◌≡◌, ◌+◌, ◌%◌, bit_xor, cond, leb, map, refl, replicate, ◌∙◌}
use lib.Lanes.{sel_l, top, zip2}
use Rattle.aes_ctr.specs.Aes.{product}
use Rattle.aes_ctr.proofs.Bytes.{doubled_lane, doubled_lane-is}
use Rattle.aes_ctr.proofs.Sixteen.{map-agreeing, sixteen_lanes}
use Rattle.aes_ctr.proofs.mix_columns.double.Goals as goal

pub returns : goal.returns
returns c = record {
  doubles =
      sixteen_lanes (λ x. zip2 bit_xor (zip2 (λ a b. (a + b) % 256) x x)
      (sel_l (map (top 7) (zip2 (λ a b. cond (leb a b) 255 0) (replicate 16 128) x)) (replicate 16 27) (replicate 16 0)) ≡ map doubled_lane x)
      (λ x0 x1 x2 x3 x4 x5 x6 x7 x8 x9 x10 x11 x12 x13 x14 x15. refl) c.args.bytes c.fits-bytes.0
      ∙ map-agreeing doubled_lane (product 2) doubled_lane-is c.args.bytes c.fits-bytes.1;
}
