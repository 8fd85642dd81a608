use Rattle.std.proofs.Common.{refl}
use Rattle.aes_ctr.specs.Aes.{affine_bits, inverse, polynomial_product, product, product_of_squares, polynomial_remainder, sub_byte}
use Rattle.aes_ctr_tests.proofs.vectors.s_box_entry_of_53.Goals as goal

pub returns : goal.returns
unfolding sub_byte affine_bits inverse product_of_squares product polynomial_product polynomial_remainder
returns c = record { entry = refl }
