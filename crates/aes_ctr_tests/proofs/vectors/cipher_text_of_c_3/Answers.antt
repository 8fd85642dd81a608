use Rattle.std.proofs.Common.{refl}
use Rattle.aes_ctr.specs.Aes.{add_round_key, aes256, affine_bits, cipher, inverse, key_words, mix_columns, polynomial_product, product, product_of_squares, polynomial_remainder, schedule_words, shift_rows, state_after, sub_byte, sub_bytes}
use Rattle.aes_ctr_tests.proofs.vectors.cipher_text_of_c_3.Goals as goal

pub returns : goal.returns
unfolding aes256 cipher state_after add_round_key mix_columns shift_rows sub_bytes schedule_words key_words sub_byte affine_bits inverse product_of_squares product polynomial_product polynomial_remainder
returns c = record { cipher_text = refl }
