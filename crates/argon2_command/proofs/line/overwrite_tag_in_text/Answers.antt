use Rattle.std.proofs.Common.{◌≡◌, ◌∙◌, ◌*◌, ap, sym, rules, length, Result, Ok, Err, IsOk, OnOk}
use Rattle.std.specs.Prelude.{⊤}
use Rattle.argon2_command.specs.Output.{tag_text, value_of_request_and_tag}
use Rattle.argon2_words.specs.Request.{Request}
use Rattle.argon2_words.specs.RequestView.{argon2_request_view}
use Rattle.argon2_words.specs.declared.items.Form.{Form}
use Rattle.argon_text.specs.EncodedText.{encoded_text}
use Rattle.hex.specs.Hex.{encode_lower, lower_digits}
use Rattle.hex.proofs.HexLemmas.{length-encode_with}
use Rattle.argon2_command.proofs.line.overwrite_tag_in_text.Goals as goal

written_if_ok : {E : Type 0} {P : Type 0} (r : Result ⊤ E) → IsOk r → OnOk r P → P
written_if_ok (Ok x) ok h = h
written_if_ok (Err e) ok h = absurd (search rules)

pub returns-in-Encoded : goal.returns-in-Encoded
returns-in-Encoded c = record {
  text = λ other is same.
      let q : Request = argon2_request_view c.args.request.now in
      let form : Form = c.args.request.now.form in
      let before : tag_text form q other ≡ encoded_text (value_of_request_and_tag q other) = ap (λ (f : Form). tag_text f q other) c.in-Encoded.is in
      let after : tag_text form q c.args.tag.now ≡ encoded_text (value_of_request_and_tag q c.args.tag.now) = ap (λ (f : Form). tag_text f q c.args.tag.now) c.in-Encoded.is in
      c.replace_tag.ensures.text (value_of_request_and_tag q other) (is ∙ before) same ∙ sym after;
}

pub returns-in-Hex : goal.returns-in-Hex
returns-in-Hex c = record {
  text = λ other is same.
      let q : Request = argon2_request_view c.args.request.now in
      let form : Form = c.args.request.now.form in
      let before : tag_text form q other ≡ encode_lower other = ap (λ (f : Form). tag_text f q other) c.in-Hex.is in
      let after : tag_text form q c.args.tag.now ≡ encode_lower c.args.tag.now = ap (λ (f : Form). tag_text f q c.args.tag.now) c.in-Hex.is in
      let room : length c.args.text.now ≡ 2 * length c.args.tag.now =
      ap length (is ∙ before) ∙ length-encode_with lower_digits other ∙ ap (λ n. 2 * n) same in
      written_if_ok c.encode_to_slice.result (c.encode_to_slice.ensures.fits.1 room) c.encode_to_slice.ensures.written ∙ sym after;
}
