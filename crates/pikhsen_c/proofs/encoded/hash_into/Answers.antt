use Rattle.std.proofs.Common.{List, ℕ, replicate, ap, rules, ◌∙◌}
use Rattle.std.proofs.lemmas.List.{length-replicate}
use Rattle.argon.specs.Parameters.{Parameters}
use Rattle.argon_text.specs.EncodedText.{encoded_text}
use Rattle.pikhsen_c.specs.Argon2.{value_to_encode}
use Rattle.pikhsen_c.proofs.encoded.hash_into.Goals as goal

pub returns-clause-text : goal.returns-clause-text
returns-clause-text c =
    let parameters : Parameters = c.args.matrix.now.parameters in
    let salt : List ℕ = c.args.inputs.now.salt.now in
    let kept = c.hash.auto.out in
    c.put.ensures.puts.text (value_to_encode parameters salt (replicate parameters.tag_len 0)) c.requires.fits.zeros (length-replicate {A = ℕ} parameters.tag_len 0 ∙ c.requires.fits.is_tag_len ∙ grind (rules, kept, c.requires.fits.short))
    ∙ ap (λ (tag : List ℕ). encoded_text (value_to_encode parameters salt tag)) c.hash.ensures.hashed.tag
