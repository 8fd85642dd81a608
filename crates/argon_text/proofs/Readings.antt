-- A text has one reading, and is a text of one value.
use Rattle.std.proofs.Common.{◌≡◌, ◌≢◌, inl, inr, ◌∙◌, ◌^◌, ◌<◌, ℕ, true, List, Option, Some, None, IfSome, refl, sym, ap, subst, arith}
use Rattle.std.specs.Fmt.{decimal}
use Rattle.std.proofs.lemmas.Option.{same_Some}
use Rattle.std.proofs.lemmas.Grind.{common_steps}
use Rattle.base64.specs.GeneralPurpose.{IsBytes}
use Rattle.argon_text.specs.Base64.{base64_bytes, is_base64}
use Rattle.argon_text.specs.EncodedText.{IsEncodedTextOf, base64_text, encoded_text, short_text}
use Rattle.argon_text.specs.Grammar.{AreNumbers, Fields, HasFields, IsEncodedTextInRange, fields_of_value, fields_of_value_with_version, is_number, number_value, value_of_fields, value_with_salt_and_tag, version_said}
use Rattle.argon_text.specs.Reading.{fields_at}
use Rattle.argon_text.specs.Value.{Value, IsEncodableValue, is_in_range}
use Rattle.argon_text.proofs.Numbers.{decimal_is_number, decimal_of_value, value_of_decimal}
use Rattle.argon_text.proofs.Symbols.{base64_form, base64_free, bytes_of_text, text_of_bytes}
use Rattle.argon_text.proofs.TakingApart.{fields_again, fields_give}

-- ---- taking apart

pub fields_of_text : (s : List ℕ) (fields : Fields) → HasFields s fields → fields_at s ≡ Some fields
fields_of_text s fields has = ap fields_at has.text ∙ fields_again fields has.numbers (base64_free fields.salt has.salt)

pub text_of_found : (s : List ℕ) (fields : Fields) (salt tag : List ℕ) → fields_at s ≡ Some fields → IsBytes salt → IsBytes tag
    → fields.salt ≡ base64_text salt → fields.tag ≡ base64_text tag → HasFields s fields
text_of_found s fields salt tag e are_salt are_tag salt_text tag_text =
    let found = fields_give s fields e in
    record {
      text = found.0;
      numbers = found.1;
      salt = ap is_base64 salt_text ∙ base64_form salt are_salt;
      tag = ap is_base64 tag_text ∙ base64_form tag are_tag;
    }

-- what is found says the value with the bytes that were decoded
pub value_of_found : (fields : Fields) (salt tag : List ℕ) → IsBytes salt → IsBytes tag
    → fields.salt ≡ base64_text salt → fields.tag ≡ base64_text tag → value_of_fields fields ≡ value_with_salt_and_tag fields salt tag
value_of_found fields salt tag are_salt are_tag salt_text tag_text =
    let salt_bytes : base64_bytes fields.salt ≡ salt = ap base64_bytes salt_text ∙ bytes_of_text salt are_salt in
    let tag_bytes : base64_bytes fields.tag ≡ tag = ap base64_bytes tag_text ∙ bytes_of_text tag are_tag in
    rw (salt_bytes, tag_bytes) refl

-- ---- one reading

pub one_reading : (s : List ℕ) (p q : Fields) → HasFields s p → HasFields s q → p ≡ q
one_reading s p q has_p has_q = same_Some p q (sym (fields_of_text s p has_p) ∙ fields_of_text s q has_q)

-- ---- values

-- the numbers of a value in range
record AreSmall (v : Value) : Type 0 where
  pub version : v.version < 2 ^ 64
  pub memory : v.memory < 2 ^ 64
  pub passes : v.passes < 2 ^ 64
  pub lanes : v.lanes < 2 ^ 64

are_small : (v : Value) → is_in_range v ≡ true → AreSmall v
are_small v h = record {
  version = grind (arith, common_steps);
  memory = grind (arith, common_steps);
  passes = grind (arith, common_steps);
  lanes = grind (arith, common_steps);
}

-- a text of a value has its fields, after the version's digits or, at version 0x10, after none
module _ (v : Value) (is : IsEncodableValue v) where
  small : AreSmall v
  small = are_small v is.in_range

  numbers_with : (version : Option (List ℕ)) → IfSome version (λ digits. is_number digits ≡ true) → AreNumbers (fields_of_value_with_version version v)
  numbers_with version number = record {
    version = number;
    memory = decimal_is_number v.memory small.memory;
    passes = decimal_is_number v.passes small.passes;
    lanes = decimal_is_number v.lanes small.lanes;
  }

  pub fields_of_encoded : HasFields (encoded_text v) (fields_of_value v)
  fields_of_encoded = record {
    text = refl;
    numbers = numbers_with (Some (decimal v.version)) (decimal_is_number v.version small.version);
    salt = base64_form v.salt is.salt;
    tag = base64_form v.tag is.tag;
  }

  fields_of_short : HasFields (short_text v) (fields_of_value_with_version None v)
  fields_of_short = record {
    text = refl;
    numbers = numbers_with None tt;
    salt = base64_form v.salt is.salt;
    tag = base64_form v.tag is.tag;
  }

  value_with_version : (version : Option (List ℕ)) → version_said version ≡ v.version → value_of_fields (fields_of_value_with_version version v) ≡ v
  value_with_version version said =
      let memory = value_of_decimal v.memory small.memory in
      let passes = value_of_decimal v.passes small.passes in
      let lanes = value_of_decimal v.lanes small.lanes in
      rw (said, memory, passes, lanes, bytes_of_text v.salt is.salt, bytes_of_text v.tag is.tag) refl

  value_of_its_fields : value_of_fields (fields_of_value v) ≡ v
  value_of_its_fields = value_with_version (Some (decimal v.version)) (value_of_decimal v.version small.version)

  -- there are fields that say the value
  abbrev IsSaid : List ℕ → Type 0
  IsSaid s = (fields : Fields) × HasFields s fields × (value_of_fields fields ≡ v)

  fields_of_its_text : (s : List ℕ) → IsEncodedTextOf v s → IsSaid s
  fields_of_its_text s (inl whole) = subst IsSaid (sym whole) (fields_of_value v, fields_of_encoded, value_of_its_fields)
  fields_of_its_text s (inr short) = subst IsSaid (sym short.1) (fields_of_value_with_version None v, fields_of_short, value_with_version None (sym short.0))

  -- a text of a value is in the grammar and in range
  pub text_in_range : (s : List ℕ) → IsEncodedTextOf v s → IsEncodedTextInRange s
  text_in_range s text =
      let found = fields_of_its_text s text in
      (found.0, found.1, ap is_in_range found.2 ∙ is.in_range)

-- the fields of a value's text say the value
pub value_of_its_text : (v : Value) (s : List ℕ) (fields : Fields) → IsEncodableValue v → IsEncodedTextOf v s → HasFields s fields → value_of_fields fields ≡ v
value_of_its_text v s fields is text has =
    let found = fields_of_its_text v is s text in
    ap value_of_fields (one_reading s fields found.0 has found.1) ∙ found.2

-- two values with one text are one
pub one_value : (v w : Value) (s : List ℕ) → IsEncodableValue v → IsEncodableValue w → IsEncodedTextOf v s → IsEncodedTextOf w s → v ≡ w
one_value v w s is_v is_w text_v text_w =
    let of_v = fields_of_its_text v is_v s text_v in
    let of_w = fields_of_its_text w is_w s text_w in
    sym of_v.2 ∙ ap value_of_fields (one_reading s of_v.0 of_w.0 of_v.1 of_w.1) ∙ of_w.2

-- no text is both short and whole
pub one_form : (v w : Value) → IsEncodableValue v → IsEncodableValue w → short_text v ≢ encoded_text w
one_form v w is_v is_w e =
    let P : List ℕ → Type 0 = λ s. HasFields s (fields_of_value w) in
    let same = one_reading (short_text v) (fields_of_value_with_version None v) (fields_of_value w) (fields_of_short v is_v) (subst P (sym e) (fields_of_encoded w is_w)) in
    let both : None ≡ Some (decimal w.version) = ap (λ (x : Fields). x.version) same in
    cc both

-- what fields in range say has their text
text_by_version : (s : List ℕ) (fields : Fields) (version : Option (List ℕ)) → fields.version ≡ version → HasFields s fields
    → is_in_range (value_of_fields fields) ≡ true → IsEncodedTextOf (value_of_fields fields) s
text_by_version s fields None none has range =
    let small = are_small (value_of_fields fields) range in
    let memory = decimal_of_value fields.memory has.numbers.memory small.memory in
    let passes = decimal_of_value fields.passes has.numbers.passes small.passes in
    let lanes = decimal_of_value fields.lanes has.numbers.lanes small.lanes in
    inr (ap version_said none, has.text ∙ rw (none, memory, passes, lanes, text_of_bytes fields.salt has.salt, text_of_bytes fields.tag has.tag) refl)
text_by_version s fields (Some digits) some has range =
    let small = are_small (value_of_fields fields) range in
    let number : is_number digits ≡ true = subst (λ v. IfSome v (λ x. is_number x ≡ true)) some has.numbers.version in
    let below : number_value digits < 2 ^ 64 = subst (λ v. version_said v < 2 ^ 64) some small.version in
    let version = decimal_of_value digits number below in
    let memory = decimal_of_value fields.memory has.numbers.memory small.memory in
    let passes = decimal_of_value fields.passes has.numbers.passes small.passes in
    let lanes = decimal_of_value fields.lanes has.numbers.lanes small.lanes in
    inl (has.text ∙ rw (some, version, memory, passes, lanes, text_of_bytes fields.salt has.salt, text_of_bytes fields.tag has.tag) refl)

pub text_of_its_value : (s : List ℕ) (fields : Fields) → HasFields s fields → is_in_range (value_of_fields fields) ≡ true
    → IsEncodedTextOf (value_of_fields fields) s
text_of_its_value s fields has range = text_by_version s fields fields.version refl has range
