use Rattle.std.proofs.Common.{refl}
use Rattle.aes_ctr.specs.Aes.{polynomial_product, product, polynomial_remainder}
use Rattle.aes_ctr_tests.proofs.vectors.product_of_57_and_83.Goals as goal

pub returns : goal.returns
unfolding product polynomial_product polynomial_remainder
returns c = record { product = refl }
