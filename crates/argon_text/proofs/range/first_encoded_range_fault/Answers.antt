use Rattle.std.proofs.Common.{◌≡◌, ◌∙◌, ap, sym, subst, None, IsSome}
use Rattle.std.proofs.lemmas.Option.{same_Some}
use Rattle.argon_text.specs.Grammar.{Fields, value_of_fields}
use Rattle.argon_text.specs.Inside.FieldsRead.{fields_of}
use Rattle.argon_text.specs.Settings.{first_encoded_range_fault}
use Rattle.argon_text.proofs.RangeFaults.{some_out}
use Rattle.argon_text.proofs.Readings.{fields_of_text}
use Rattle.argon_text.proofs.Answering.{no_text}
use Rattle.argon_text.proofs.TakingApart.{fields_give}
use Rattle.argon_text.proofs.range.first_encoded_range_fault.Goals as goal

pub returns-in_err-fields-clause-first : goal.returns-in_err-fields-clause-first
returns-in_err-fields-clause-first c fields has = absurd (no_text c.args.text.now c.in_err-fields.ensures.fields (fields, has))

pub returns-in_err-fields-clause-found : goal.returns-in_err-fields-clause-found
returns-in_err-fields-clause-found c is _ = absurd (no_text c.args.text.now c.in_err-fields.ensures.fields is)

pub range_fault_of_fields-requires : goal.range_fault_of_fields-requires
range_fault_of_fields-requires c = record { numbers = (fields_give c.args.text.now (fields_of c.in_ok-fields.fields) c.in_ok-fields.ensures.fields).1 }

pub returns-clause-first : goal.returns-clause-first
returns-clause-first c fields has =
    let same : fields ≡ fields_of c.in_ok-fields.fields =
    same_Some fields (fields_of c.in_ok-fields.fields) (sym (fields_of_text c.args.text.now fields has) ∙ c.in_ok-fields.ensures.fields) in
    c.range_fault_of_fields.ensures.first ∙ ap (λ (f : Fields). first_encoded_range_fault (value_of_fields f)) (sym same)

pub returns-clause-found : goal.returns-clause-found
returns-clause-found c is outside =
    let same : is.0 ≡ fields_of c.in_ok-fields.fields =
    same_Some is.0 (fields_of c.in_ok-fields.fields) (sym (fields_of_text c.args.text.now is.0 is.1) ∙ c.in_ok-fields.ensures.fields) in
    let told = c.range_fault_of_fields.ensures.first ∙ ap (λ (f : Fields). first_encoded_range_fault (value_of_fields f)) (sym same) in
    some_out (value_of_fields is.0) c.range_fault_of_fields.result told (λ inside. outside (is.0, is.1, inside))
