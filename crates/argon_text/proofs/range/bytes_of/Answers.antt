-- How many bytes symbols stand for.
use Rattle.std.proofs.Common.{◌≡◌, ◌+◌, ◌*◌, ◌/◌, ◌%◌, ◌-◌, ℕ, List, [], ◌∷◌, length, refl, arith, ◌∙◌, sym}
use Rattle.argon_text.specs.Base64.{base64_bytes}
use Rattle.argon_text.proofs.range.bytes_of.Goals as goal

length_of_bytes : (s : List ℕ) → length (base64_bytes s) ≡ length s / 4 * 3 + (length s % 4 - 1)
unfolding base64_bytes
length_of_bytes [] = refl
length_of_bytes (a ∷ []) = refl
length_of_bytes (a ∷ b ∷ []) = refl
length_of_bytes (a ∷ b ∷ c ∷ []) = refl
length_of_bytes (a ∷ b ∷ c ∷ d ∷ rest) = omega (arith, length_of_bytes rest)

pub returns : goal.returns
returns c = record { len = omega (arith, length_of_bytes c.args.symbols.now) }
