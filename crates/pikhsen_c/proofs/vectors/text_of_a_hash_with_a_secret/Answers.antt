use Rattle.std.proofs.Common.{ap, List, ℕ, ◌∙◌}
use Rattle.argon_text.specs.EncodedText.{encoded_text}
use Rattle.argon_text.specs.Value.{Value}
use Rattle.argon_text.specs.Vectors.{sample_encoded_value}
use Rattle.argon_text.proofs.KnownText.{text_of_known_value}
use Rattle.pikhsen_c.proofs.vectors.text_of_a_hash_with_a_secret.Goals as goal

pub returns : goal.returns
returns c = record {
  text = λ known. ap (λ (tag : List ℕ). let v : Value = record sample_encoded_value { tag = tag } in encoded_text v) known ∙ text_of_known_value;
}
