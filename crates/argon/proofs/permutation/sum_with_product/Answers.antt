use Rattle.std.proofs.Common.{◌%◌, ◌^◌, slice_index}
use Rattle.argon.proofs.FourWords.{twice_added}
use Rattle.argon.proofs.permutation.sum_with_product.Goals as goal

pub returns : goal.returns
returns c = record {
  value = λ j h. let a = slice_index c.args.a j in
      let b = slice_index c.args.b j in
      rw (c.sum-3.ensures.value j h, c.sum-2.ensures.value j h, c.sum.ensures.value j h, c.product-product.ensures.value j h, c.low_half-2.ensures.value j h, c.low_half.ensures.value j h)
      (twice_added a b (a % 2 ^ 32) (b % 2 ^ 32));
}
