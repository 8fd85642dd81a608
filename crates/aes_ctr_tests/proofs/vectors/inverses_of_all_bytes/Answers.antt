use Rattle.std.proofs.Common.{refl}
use Rattle.aes_ctr.specs.Aes.{inverse, polynomial_product, product, product_of_squares, polynomial_remainder}
use Rattle.aes_ctr_tests.proofs.vectors.inverses_of_all_bytes.Goals as goal

pub returns : goal.returns
unfolding inverse product_of_squares product polynomial_product polynomial_remainder
returns c = record { products = refl; of_zero = refl }
