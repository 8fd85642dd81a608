-- A text of the reference program, and what it says.
use Rattle.std.proofs.Common.{◌≡◌, ◌<◌, ℕ, true, zero, suc, List, [], ◌∷◌, nat_lt, slice_index, refl, inl, sym, arith}
use Rattle.std.specs.List.{list_all}
use Rattle.std.proofs.lemmas.Bool.Decides.{nat_tests}
use Rattle.std.proofs.lemmas.Grind.{common_steps}
use Rattle.argon_text.specs.Vectors.{sample_encoded_text, sample_encoded_value}
use Rattle.argon_text.proofs.KnownText.{text_of_known_value}
use Rattle.argon2_verify.specs.Hash.{Says}

-- each byte is below 256, by a test of all
below : (xs : List ℕ) → list_all (λ x. nat_lt x 256) xs ≡ true → (i : ℕ) → slice_index xs i < 256
below [] all i = grind (arith, common_steps)
below (x ∷ xs) all zero = grind (arith, common_steps, nat_tests, all)
below (x ∷ xs) all (suc i) = below xs (grind (arith, common_steps, all)) i

pub known_hash : Says sample_encoded_text sample_encoded_value
known_hash = record {
  short = omega arith;
  value = record { in_range = refl; salt = below sample_encoded_value.salt refl; tag = below sample_encoded_value.tag refl };
  text = inl (sym text_of_known_value);
}
