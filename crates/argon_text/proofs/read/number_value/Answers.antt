use Rattle.std.proofs.Common.{◌≡◌, ◌+◌, ◌*◌, ◌<◌, ◌≤◌, ℕ, List, length, take, get_or, true, arith, ◌∙◌}
use Rattle.std.specs.Char.{is_ascii_digit}
use Rattle.std.proofs.lemmas.List.Sums.{AllPass-from_list_all}
use Rattle.std.proofs.lemmas.List.Elements.{All-get_or}
use Rattle.argon_text.specs.Grammar.{is_number, number_value}
use Rattle.argon_text.proofs.Numbers.{value_more, value_of_front}
use Rattle.argon_text.proofs.TakingApart.{digits_of_number}
use Rattle.argon_text.proofs.read.number_value.Goals as goal

digit_at : (ds : List ℕ) (i : ℕ) → i < length ds → is_number ds ≡ true → is_ascii_digit (get_or ds i 0) ≡ true
digit_at ds i within number = All-get_or (λ x. is_ascii_digit x ≡ true) ds i 0 within (AllPass-from_list_all is_ascii_digit ds (digits_of_number ds number))

pub loop-byte-preserved : goal.loop-byte-preserved
loop-byte-preserved c =
    let ds : List ℕ = c.args.digits.now in
    let i : ℕ = c.loop-byte.byte-index in
    let within : i < length ds = omega arith in
    let here = digit_at ds i within c.requires.form in
    record {
      number = value_more ds i c.from.result c.from-in-loop-byte.result within here (c.from.ensures ∙ c.loop-byte.invariant.number) (omega arith);
      small = omega arith;
    }

pub returns-then-more-from : goal.returns-then-more-from
returns-then-more-from c =
    let ds : List ℕ = c.args.digits.now in
    let i : ℕ = c.loop-byte.byte-index in
    let within : i < length ds = omega arith in
    let here = digit_at ds i within c.requires.form in
    let more : c.from.result * 10 + c.from-in-loop-byte.result ≡ number_value (take (i + 1) ds) =
    value_more ds i c.from.result c.from-in-loop-byte.result within here (c.from.ensures ∙ c.loop-byte.invariant.number) (omega arith) in
    let front : number_value (take (i + 1) ds) ≤ number_value ds = value_of_front ds (i + 1) in
    omega arith
