use Rattle.std.proofs.Common.{ap, List, ℕ, ◌++◌, ◌∷◌, ◌∙◌, [], Ok}
use Rattle.argon_text.specs.EncodedText.{encoded_text}
use Rattle.argon_text.specs.Value.{Value}
use Rattle.argon_text.specs.Vectors.{sample_encoded_value}
use Rattle.argon_text.proofs.KnownText.{text_of_known_value}
use Rattle.argon2_command.proofs.vectors.output_of_one_pass.Goals as goal

pub returns : goal.returns
returns c = record {
  output = λ known.
      ap (λ (tag : List ℕ). let v : Value = record sample_encoded_value { tag = tag } in Ok (encoded_text v ++ 10 ∷ [])) known
      ∙ ap (λ (text : List ℕ). Ok (text ++ 10 ∷ [])) text_of_known_value;
}
