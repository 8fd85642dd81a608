use Rattle.std.proofs.Common.{refl}
use Rattle.aes_ctr.specs.Aes.{affine_bits, inverse, key_words, polynomial_product, product, product_of_squares, polynomial_remainder, schedule_words, sub_byte}
use Rattle.aes_ctr_tests.proofs.vectors.last_word_of_key_schedule.Goals as goal

pub returns : goal.returns
unfolding schedule_words key_words sub_byte affine_bits inverse product_of_squares product polynomial_product polynomial_remainder
returns c = record { word = refl }
