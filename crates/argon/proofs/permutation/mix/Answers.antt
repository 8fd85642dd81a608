use Rattle.std.proofs.Common.{refl}
use Rattle.argon.specs.Compression.{mixed_words}
use Rattle.argon.proofs.permutation.mix.Goals as goal

pub returns : goal.returns
unfolding mixed_words
returns c = record {
  value = λ j h. rw (
    c.rotated_xor-b-2.ensures.value j h,
    c.sum_with_product-c-2.ensures.value j h,
    c.rotated_xor-d-2.ensures.value j h,
    c.sum_with_product-a-2.ensures.value j h,
    c.rotated_xor-b.ensures.value j h,
    c.sum_with_product-c.ensures.value j h,
    c.rotated_xor-d.ensures.value j h,
    c.sum_with_product-a.ensures.value j h,
  ) refl;
}
