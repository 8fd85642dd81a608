use Rattle.std.proofs.Common.{◌≡◌, ◌∙◌, true, Err, ap, sym, subst, rules}
use Rattle.argon_text.specs.Answer.{IsResultOfReading}
use Rattle.argon_text.specs.EncodedText.{IsEncodedTextOf}
use Rattle.argon_text.specs.Grammar.{value_with_salt_and_tag}
use Rattle.argon_text.specs.Value.{Value, IsEncodableValue, is_in_range}
use Rattle.argon_text.specs.View.{value_of}
use Rattle.argon_text.specs.Inside.FieldsRead.{fields_of}
use Rattle.argon_text.proofs.Answering.{no_text, out_of_range, salt_fault, tag_fault, value_found}
use Rattle.argon_text.proofs.TakingApart.{fields_give}
use Rattle.argon_text.proofs.read.read_encoded_with_memory.Goals as goal

pub returns-in_default-clause-answer : goal.returns-in_default-clause-answer
returns-in_default-clause-answer g c = no_text c.args.text.now c.in_default.ensures.fields

pub returns-in_err-salt-clause-answer : goal.returns-in_err-salt-clause-answer
returns-in_err-salt-clause-answer g c =
    let told : c.from_residual.result ≡ Err c.in_err-salt.field-0.0 = search rules in
    subst (IsResultOfReading c.args.text.now) (sym told)
    (salt_fault c.args.text.now (fields_of c.in-Some.fields) c.in-Some.ensures.fields c.in_err-salt.field-0.0 c.in_err-salt.ensures.err)

pub returns-in_err-tag-clause-answer : goal.returns-in_err-tag-clause-answer
returns-in_err-tag-clause-answer g c =
    let told : c.from_residual-in_err-tag.result ≡ Err c.in_err-tag.field-0.0 = search rules in
    subst (IsResultOfReading c.args.text.now) (sym told)
    (tag_fault c.args.text.now (fields_of c.in-Some.fields) c.in-Some.ensures.fields c.in_err-tag.field-0.0 c.in_err-tag.ensures.err)

pub encoded_from_fields-requires : goal.encoded_from_fields-requires
encoded_from_fields-requires g c = record { numbers = (fields_give c.args.text.now (fields_of c.in-Some.fields) c.in-Some.ensures.fields).1 }

pub returns-in-None-clause-answer : goal.returns-in-None-clause-answer
returns-in-None-clause-answer g c =
    out_of_range c.args.text.now (fields_of c.in-Some.fields) c.in-Some.ensures.fields c.in_ok-salt.salt.items c.in_ok-tag.tag.items
    c.in_ok-salt.ensures.bytes c.in_ok-tag.ensures.bytes c.in_ok-salt.ensures.text c.in_ok-tag.ensures.text c.in-None.ensures.value

pub returns-in-Some-encoded_from_fields-clause-answer : goal.returns-in-Some-encoded_from_fields-clause-answer
returns-in-Some-encoded_from_fields-clause-answer g c =
    let v : Value = value_with_salt_and_tag (fields_of c.in-Some.fields) c.in_ok-salt.salt.items c.in_ok-tag.tag.items in
    let same : value_of c.in-Some-encoded_from_fields.encoded ≡ v = c.in-Some-encoded_from_fields.ensures.value in
    let inside : is_in_range v ≡ true = sym (ap is_in_range same) ∙ c.in-Some-encoded_from_fields.encoded.in_range in
    let P : Value → Type 0 = λ w. IsEncodableValue w × IsEncodedTextOf w c.args.text.now in
    subst P (sym same)
    (value_found c.args.text.now (fields_of c.in-Some.fields) c.in-Some.ensures.fields c.in_ok-salt.salt.items c.in_ok-tag.tag.items
    c.in_ok-salt.ensures.bytes c.in_ok-tag.ensures.bytes c.in_ok-salt.ensures.text c.in_ok-tag.ensures.text inside)
