use Rattle.std.proofs.Common.{refl}
use Rattle.argon_text.specs.Base64.{base64_bytes, is_base64, symbol_value}
use Rattle.argon_text_tests.proofs.vectors.base64_of_the_standard.Goals as goal

pub returns : goal.returns
unfolding is_base64 base64_bytes symbol_value
returns c = record {
  nothing = refl;
  one_symbol = refl;
  two_symbols = refl;
  three_symbols = refl;
  four_symbols = refl;
  eight_symbols = refl;
  form = refl;
  unused_bits = refl;
  form_of_two = refl;
  unused_bits_of_two = refl;
  lone_symbol = refl;
  padding = refl;
  symbols = refl;
  each_place = refl;
  last_bits = refl;
  last_of_two = refl;
  last_of_three = refl;
  bytes = refl;
}
