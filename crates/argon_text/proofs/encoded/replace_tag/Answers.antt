-- The tag's symbols are the end of a text, as many for each tag of one length.
use Rattle.std.proofs.Common.{◌≡◌, ◌∙◌, ℕ, ◌+◌, ◌-◌, ◌≤◌, List, [], ◌++◌, length, take, drop, refl, ap, sym, subst, arith, codes, Result, Ok, OnOk}
use Rattle.std.specs.Fmt.{decimal}
use Rattle.std.proofs.lemmas.List.{append-nil, drop_all, length-append, length-drop, length-take, take_at}
use borrow.Rule.Slice.PartMut.{put_mid, post_of}
use Rattle.base64.specs.Rfc4648.{encode_symbols, unpadded_len}
use Rattle.base64.specs.Engines.{standard_no_pad}
use Rattle.base64.specs.GeneralPurpose.{IsEncodedOver}
use Rattle.base64.specs.declared.encode.EncodeSliceError.{EncodeSliceError}
use Rattle.base64.proofs.RoundTrip.{length-encode_symbols}
use Rattle.argon_text.specs.EncodedText.{base64_text, encoded_text, kind_name, text_of_fields, version_field}
use Rattle.argon_text.specs.Value.{Value}
use Rattle.std.proofs.lemmas.Grind.{common_steps}
use Rattle.argon_text.proofs.encoded.replace_tag.Goals as goal

-- a text as far as the tag
abbrev front : Value → List ℕ
front v =
    codes "$argon2" ++ kind_name v.kind ++ version_field (decimal v.version) ++ codes "$m=" ++ decimal v.memory ++ codes ",t="
    ++ decimal v.passes ++ codes ",p=" ++ decimal v.lanes ++ codes "$" ++ base64_text v.salt ++ codes "$"

text_by_front : (v : Value) → encoded_text v ≡ front v ++ base64_text v.tag
unfolding text_of_fields
text_by_front v = refl

length-base64_text : (m : List ℕ) → length (base64_text m) ≡ unpadded_len (length m)
unfolding base64_text
length-base64_text m = ap length (append-nil (encode_symbols standard_no_pad.encode_table m)) ∙ length-encode_symbols standard_no_pad.encode_table m

length_of_text : (v : Value) → length (encoded_text v) ≡ length (front v) + unpadded_len (length v.tag)
length_of_text v = ap length (text_by_front v) ∙ length-append (front v) (base64_text v.tag) ∙ ap (λ n. length (front v) + n) (length-base64_text v.tag)

-- the symbols of the tag are no more than the text has bytes
room_for_tag : (v : Value) (text tag : List ℕ) → text ≡ encoded_text v → length v.tag ≡ length tag → unpadded_len (length tag) ≤ length text
room_for_tag v text tag is same = rw (is, length_of_text, same) (omega arith)

-- other symbols in the place of the tag's make the text of the other tag
other_tag : (v : Value) (text tag : List ℕ) (start : ℕ) → text ≡ encoded_text v → length v.tag ≡ length tag
    → start + unpadded_len (length tag) ≡ length text → take start text ++ base64_text tag ≡ encoded_text (record v { tag = tag })
other_tag v text tag start is same place =
    let long : length text ≡ length (front v) + unpadded_len (length v.tag) = ap length is ∙ length_of_text v in
    let kept : take start text ≡ front v = ap (take start) (is ∙ text_by_front v) ∙ take_at (front v) (base64_text v.tag) start (omega (arith, long, place, same)) in
    ap (λ (l : List ℕ). l ++ base64_text tag) kept ∙ sym (text_by_front (record v { tag = tag }))

-- what the tag's symbols leave of the end of a text that they were written over
end_put : (text tag new : List ℕ) (start : ℕ) (r : Result ℕ EncodeSliceError) → start + unpadded_len (length tag) ≡ length text
    → let end : List ℕ = take (length text - start) (drop start text) in
    (unpadded_len (length tag) ≤ length end → r ≡ Ok (unpadded_len (length tag)))
    → OnOk r (IsEncodedOver standard_no_pad tag end new)
    → put_mid start (length text - start) text new ≡ take start text ++ base64_text tag
unfolding base64_text
end_put text tag new start r place fits over =
    let size : ℕ = unpadded_len (length tag) in
    let end : List ℕ = take (length text - start) (drop start text) in
    let long : length end ≡ size = omega (arith, length-take (length text - start) (drop start text), length-drop start text, place) in
    let wrote : IsEncodedOver standard_no_pad tag end new = subst (λ (s : Result ℕ EncodeSliceError). OnOk s (IsEncodedOver standard_no_pad tag end new)) (fits (omega (arith, long))) over in
    let rest : drop size end ≡ [] = drop_all size end (omega (arith, long)) in
    let symbols : new ≡ base64_text tag = wrote ∙ ap (λ (l : List ℕ). base64_text tag ++ l) rest ∙ append-nil (base64_text tag) in
    let left : post_of start (length text - start) text ≡ [] = drop_all (length text - start) (drop start text) (omega (arith, length-drop start text)) in
    rw (left, append-nil, symbols) refl

-- the same where the text is that of a value
tag_put : (v : Value) (text tag new : List ℕ) (start : ℕ) → text ≡ encoded_text v → length v.tag ≡ length tag
    → start + unpadded_len (length tag) ≡ length text → new ≡ take start text ++ base64_text tag → new ≡ encoded_text (record v { tag = tag })
tag_put v text tag new start is same place end = end ∙ other_tag v text tag start is same place

pub returns-in-Some-checked_sub : goal.returns-in-Some-checked_sub
returns-in-Some-checked_sub c =
    let text = c.args.text.now in
    let tag = c.args.tag.now in
    let size : c.in-Some.len ≡ unpadded_len (length c.args.tag.now) = grind (arith, common_steps) in
    let long = length-base64_text tag in
    let place : c.in-Some-checked_sub.start + unpadded_len (length c.args.tag.now) ≡ length c.args.text.now = grind (arith, common_steps) in
    let start : length c.args.text.now - length (base64_text c.args.tag.now) ≡ c.in-Some-checked_sub.start = omega (arith, long, place) in
    let put = end_put text tag c.encode_slice.new.output c.in-Some-checked_sub.start c.encode_slice.result place c.encode_slice.ensures.fits c.encode_slice.ensures.written in
    record {
      text = λ v is same. tag_put v text tag _ c.in-Some-checked_sub.start is same place put;
      end = λ fits. rw start put;
      short = λ less. absurd (omega (arith, long, place, less));
    }

pub returns-in_default-checked_sub : goal.returns-in_default-checked_sub
returns-in_default-checked_sub c =
    let text = c.args.text.now in
    let tag = c.args.tag.now in
    let size : c.in-Some.len ≡ unpadded_len (length c.args.tag.now) = grind (arith, common_steps) in
    let long = length-base64_text tag in
    record {
      text = λ v is same.
          let room = room_for_tag v text tag is same in
          absurd (grind (arith, common_steps, size, room));
      end = λ fits. absurd (grind (arith, common_steps, size, long, fits));
      short = λ less. refl;
    }
