use Rattle.argon_text.specs.View.{value_of}
use Rattle.pikhsen_c.proofs.settings.read_encoded_settings_with_memory.Goals as goal

pub returns-in-Ok-clause-found : goal.returns-in-Ok-clause-found
returns-in-Ok-clause-found g c = λ told. record {
  value = value_of c.in-Ok.reading.encoded;
  valid = c.in-Ok.ensures.value;
  written = c.in-Ok.ensures.found;
  told = c.settings_of_reading.ensures.settings;
}
