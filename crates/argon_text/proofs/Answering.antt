-- Each answer of reading, from what its steps found.
use Rattle.std.proofs.Common.{◌≡◌, ◌∙◌, ℕ, true, false, List, Some, None, refl, sym, ap, subst}
use Rattle.std.specs.declared.result.Result.{Result}
use Rattle.std.specs.declared.result.Result.TheVariants.{Ok, Err}
use Rattle.std.specs.Prelude.{IfOk}
use Rattle.std.specs.Result.{MatchResult}
use Rattle.std.proofs.lemmas.Option.{same_Some}
use Rattle.base64.specs.GeneralPurpose.{IsBytes}
use Rattle.argon_text.specs.Answer.{IsResultOfReading, IsReadFaultOfText, ReadsText}
use Rattle.argon_text.specs.Inside.Base64Fault.{IsBase64Fault}
use Rattle.argon_text.specs.Base64.{is_base64}
use Rattle.argon_text.specs.EncodedText.{IsEncodedTextOf, base64_text}
use Rattle.argon_text.specs.Grammar.{Fields, HasFields, HasWellFormedNumbers, IsEncodedText, IsEncodedTextInRange, value_of_fields, value_with_salt_and_tag}
use Rattle.argon_text.specs.Reading.{fields_at}
use Rattle.argon_text.specs.Value.{Value, IsEncodableValue, is_in_range}
use Rattle.argon_text.specs.View.{value_of}
use Rattle.argon_text.specs.declared.encoded.Encoded.{Encoded}
use Rattle.argon_text.specs.declared.fault.ReadFault.{ReadFault}
use Rattle.argon_text.specs.declared.fault.ReadFault.TheVariants.{NotInGrammar, OutOfRange, OutOfMemory}
use Rattle.argon_text.proofs.TakingApart.{fields_give}
use Rattle.argon_text.proofs.Readings.{fields_of_text, one_reading, one_value, text_in_range, text_of_found, text_of_its_value, value_of_found}

pub no_text : (s : List ℕ) → fields_at s ≡ None → IsEncodedText s → ⊥
no_text s none has =
    let found = fields_of_text s has.0 has.1 in
    cc

-- the answers where fields were found
module _ (s : List ℕ) (fields : Fields) (found : fields_at s ≡ Some fields) where
  are_fields : (others : Fields) → HasFields s others → others ≡ fields
  are_fields others has = same_Some others fields (sym (fields_of_text s others has) ∙ found)

  pub salt_fault : (f : ReadFault) → IsBase64Fault fields.salt f → IsReadFaultOfText s f
  salt_fault NotInGrammar none = λ has. none (ap (λ (x : Fields). is_base64 x.salt) (sym (are_fields has.0 has.1)) ∙ has.1.salt)
  salt_fault OutOfRange none = absurd none
  salt_fault OutOfMemory none = (let give = fields_give s fields found in (fields, give.0, give.1))

  pub tag_fault : (f : ReadFault) → IsBase64Fault fields.tag f → IsReadFaultOfText s f
  tag_fault NotInGrammar none = λ has. none (ap (λ (x : Fields). is_base64 x.tag) (sym (are_fields has.0 has.1)) ∙ has.1.tag)
  tag_fault OutOfRange none = absurd none
  tag_fault OutOfMemory none = (let give = fields_give s fields found in (fields, give.0, give.1))

  -- the answers where salt and tag were decoded, too
  module _ (salt tag : List ℕ) (are_salt : IsBytes salt) (are_tag : IsBytes tag) (salt_text : fields.salt ≡ base64_text salt)
      (tag_text : fields.tag ≡ base64_text tag) where
    has_fields : HasFields s fields
    has_fields = text_of_found s fields salt tag found are_salt are_tag salt_text tag_text

    says : value_of_fields fields ≡ value_with_salt_and_tag fields salt tag
    says = value_of_found fields salt tag are_salt are_tag salt_text tag_text

    pub out_of_range : is_in_range (value_with_salt_and_tag fields salt tag) ≡ false → IsEncodedText s × (IsEncodedTextInRange s → ⊥)
    out_of_range outside = (
      (fields, has_fields),
      λ other.
          let same = one_reading s other.0 fields other.1 has_fields in
          let inside : is_in_range (value_of_fields fields) ≡ true = sym (ap (λ (x : Fields). is_in_range (value_of_fields x)) same) ∙ other.2 in
          let both : true ≡ false = sym inside ∙ ap is_in_range says ∙ outside in
          cc both,
    )

    pub value_found : is_in_range (value_with_salt_and_tag fields salt tag) ≡ true
        → IsEncodableValue (value_with_salt_and_tag fields salt tag) × IsEncodedTextOf (value_with_salt_and_tag fields salt tag) s
    value_found inside =
        let text = text_of_its_value s fields has_fields (ap is_in_range says ∙ inside) in
        (record { in_range = inside; salt = are_salt; tag = are_tag }, subst (λ v. IsEncodedTextOf v s) says text)

-- the answer to a text of a value
pub answer_to_text : (s : List ℕ) (r : Result Encoded ReadFault) → IsResultOfReading s r → (v : Value) → IsEncodableValue v → IsEncodedTextOf v s
    → MatchResult r (λ e. value_of e ≡ v) (λ f. f ≡ OutOfMemory)
answer_to_text s (Ok e) is v valid text = one_value (value_of e) v s is.0 valid is.1 text
answer_to_text s (Err NotInGrammar) is v valid text =
    let told = text_in_range v valid s text in
    absurd (is (told.0, told.1))
answer_to_text s (Err OutOfRange) is v valid text = absurd (is.1 (text_in_range v valid s text))
answer_to_text s (Err OutOfMemory) is v valid text = refl

-- ---- what each answer says

found_of : (s : List ℕ) (r : Result Encoded ReadFault) → IsResultOfReading s r → IfOk r (λ e. IsEncodedTextOf (value_of e) s)
found_of s (Ok e) answer = answer.1
found_of s (Err f) answer = tt

encodable_of : (s : List ℕ) (r : Result Encoded ReadFault) → IsResultOfReading s r → IfOk r (λ e. IsEncodableValue (value_of e))
encodable_of s (Ok e) answer = answer.0
encodable_of s (Err f) answer = tt

fault_of : (s : List ℕ) (r : Result Encoded ReadFault) → IsResultOfReading s r → (f : ReadFault) → r ≡ Err f → IsReadFaultOfText s f
fault_of s r answer f told = subst (IsResultOfReading s) told answer

pub reads_text : (s : List ℕ) (r : Result Encoded ReadFault) → IsResultOfReading s r → ReadsText s r
reads_text s r answer = record {
  found = found_of s r answer;
  value = encodable_of s r answer;
  not_in_grammar = fault_of s r answer NotInGrammar;
  out_of_range = fault_of s r answer OutOfRange;
  out_of_memory = fault_of s r answer OutOfMemory;
  again = answer_to_text s r answer;
}
