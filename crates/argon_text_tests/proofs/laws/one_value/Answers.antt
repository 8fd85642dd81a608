use Rattle.argon_text.proofs.Readings.{fields_of_encoded, one_form, one_value, text_in_range, text_of_its_value, value_of_its_text}
use Rattle.argon_text_tests.proofs.laws.one_value.Goals as goal

pub returns : goal.returns
returns c = record {
  in_range = λ v s is text. text_in_range v is s text;
  unique = one_value;
  fields = fields_of_encoded;
  says = value_of_its_text;
  said = text_of_its_value;
  form = one_form;
}
