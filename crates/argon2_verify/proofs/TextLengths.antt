-- How long a text in range is.
use Rattle.std.proofs.Common.{◌≡◌, ◌∙◌, ◌≤◌, ◌<◌, ◌+◌, ◌*◌, ◌/◌, ◌^◌, ◌++◌, ℕ, true, List, length, length-append, inl, inr, ap, arith, subst, sym}
use Rattle.std.specs.Prelude.{codes}
use Rattle.std.specs.Fmt.{decimal}
use Rattle.std.proofs.lemmas.List.{append-nil}
use Rattle.std.proofs.lemmas.Fmt.{length-decimal-le}
use Rattle.std.proofs.lemmas.Grind.{common_steps}
use Rattle.base64.proofs.RoundTrip.{length-encode_symbols}
use Rattle.argon.specs.declared.kind.Kind.{Kind}
use Rattle.argon.specs.declared.kind.Kind.TheVariants.{D, I, Id}
use Rattle.argon_text.specs.EncodedText.{IsEncodedTextOf, base64_text, kind_name, text_of_fields, text_with_version_field, version_field}
use Rattle.argon_text.specs.Grammar.{IsEncodedTextInRange, value_of_fields}
use Rattle.argon_text.specs.Value.{Value, is_in_range}
use Rattle.argon_text.proofs.Readings.{text_of_its_value}

-- the numbers and lengths of a value in range
record AreShort (v : Value) : Type 0 where
  version : v.version < 10 ^ 2
  memory : v.memory < 10 ^ 10
  passes : v.passes < 10 ^ 10
  lanes : v.lanes < 10 ^ 8
  salt : length v.salt ≤ 255
  tag : length v.tag ≤ 4096

are_short : (v : Value) → is_in_range v ≡ true → AreShort v
are_short v h = record {
  version = grind (arith, common_steps);
  memory = grind (arith, common_steps);
  passes = grind (arith, common_steps);
  lanes = grind (arith, common_steps);
  salt = grind (arith, common_steps);
  tag = grind (arith, common_steps);
}

symbols_length : (bytes : List ℕ) → length (base64_text bytes) ≡ (4 * length bytes + 2) / 3
unfolding base64_text
symbols_length bytes = ap length (append-nil _) ∙ length-encode_symbols _ bytes

kind_length : (k : Kind) → length (kind_name k) ≤ 2
kind_length D = omega arith
kind_length I = omega arith
kind_length Id = omega arith

-- labels have 18 bytes
parts_length : (kind version memory passes lanes salt tag : List ℕ) → length kind ≤ 2 → length version ≤ 5 → length memory ≤ 10 → length passes ≤ 10
    → length lanes ≤ 8 → length salt ≤ 340 → length tag ≤ 5462 → length (text_of_fields kind version memory passes lanes salt tag) ≤ 5855
unfolding text_of_fields
parts_length kind version memory passes lanes salt tag k v m t p s l =
    let a : List ℕ = codes "$argon2" ++ kind in
    let b : List ℕ = a ++ version in
    let c : List ℕ = b ++ codes "$m=" in
    let d : List ℕ = c ++ memory in
    let e : List ℕ = d ++ codes ",t=" in
    let f : List ℕ = e ++ passes in
    let g : List ℕ = f ++ codes ",p=" in
    let h : List ℕ = g ++ lanes in
    let i : List ℕ = h ++ codes "$" in
    let j : List ℕ = i ++ salt in
    let q : List ℕ = j ++ codes "$" in
    let few : length (q ++ tag) ≤ 5855 = omega (
      arith,
      k,
      v,
      m,
      t,
      p,
      s,
      l,
      length-append (codes "$argon2") kind,
      length-append a version,
      length-append b (codes "$m="),
      length-append c memory,
      length-append d (codes ",t="),
      length-append e passes,
      length-append f (codes ",p="),
      length-append g lanes,
      length-append h (codes "$"),
      length-append i salt,
      length-append j (codes "$"),
      length-append q tag,
    ) in
    few

text_length : (v : Value) (version : List ℕ) → is_in_range v ≡ true → length version ≤ 5 → length (text_with_version_field version v) ≤ 5855
text_length v version range few =
    let short = are_short v range in
    parts_length (kind_name v.kind) version (decimal v.memory) (decimal v.passes) (decimal v.lanes) (base64_text v.salt) (base64_text v.tag)
    (kind_length v.kind) few (length-decimal-le 10 v.memory (omega arith) short.memory (omega (arith, short.memory)))
    (length-decimal-le 10 v.passes (omega arith) short.passes (omega (arith, short.passes)))
    (length-decimal-le 8 v.lanes (omega arith) short.lanes (omega (arith, short.lanes)))
    (omega (arith, symbols_length v.salt, short.salt)) (omega (arith, symbols_length v.tag, short.tag))

version_length : (v : Value) → is_in_range v ≡ true → length (version_field (decimal v.version)) ≤ 5
version_length v range =
    let short = are_short v range in
    let few : length (decimal v.version) ≤ 2 = length-decimal-le 2 v.version (omega arith) short.version (omega (arith, short.version)) in
    grind (arith, common_steps, few)

of_value : (v : Value) (text : List ℕ) → is_in_range v ≡ true → IsEncodedTextOf v text → length text ≤ 5855
of_value v text range (inl whole) = subst (λ t. length t ≤ 5855) (sym whole) (text_length v (version_field (decimal v.version)) range (version_length v range))
of_value v text range (inr short) = subst (λ t. length t ≤ 5855) (sym short.1) (text_length v _ range (omega arith))

pub texts_are_short : (text : List ℕ) → IsEncodedTextInRange text → length text ≤ 5855
texts_are_short text found = of_value (value_of_fields found.0) text found.2 (text_of_its_value text found.0 found.1 found.2)
