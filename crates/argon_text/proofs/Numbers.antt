-- The digits of a number: one form for each value.
use Rattle.std.proofs.Common.{◌≡◌, ◌∙◌, ◌+◌, ◌-◌, ◌*◌, ◌^◌, ◌<◌, ◌≤◌, ◌&&◌, ℕ, true, suc, zero, List, [], ◌∷◌, length, get_or, take, refl, sym, ap, ap₂, arith}
use Rattle.std.specs.List.{list_all}
use Rattle.std.specs.Char.{is_ascii_digit, digit_value}
use Rattle.std.specs.Str.{all_ascii_digits}
use Rattle.std.specs.Str.Parse.{digits_value}
use Rattle.std.specs.Fmt.{decimal, digits}
use Rattle.std.proofs.lemmas.Fmt.{decimal_is_IsNumeral, first_decimal, decimal-digits_value}
use Rattle.std.proofs.lemmas.Str.{digit_value_digit}
use Rattle.std.proofs.lemmas.Str.Parse.{IsNumeralModel, tells_all_ascii_digits, numerals_by_value, digits_value-take-le}
use Rattle.std.proofs.lemmas.Int.Digits.{digits_value_more}
use Rattle.std.proofs.lemmas.Grind.{common_steps}
use Rattle.argon_text.specs.Grammar.{is_number, number_value}
use Rattle.argon_text.proofs.TakingApart.{digits_of_number}

all_ascii : (ds : List ℕ) → list_all is_ascii_digit ds ≡ all_ascii_digits ds
all_ascii [] = refl
all_ascii (d ∷ ds) = ap (λ b. is_ascii_digit d && b) (all_ascii ds)

own : IsNumeralModel (λ ds. all_ascii_digits ds ≡ true) (digits_value 10)
own = numerals_by_value (λ ds. all_ascii_digits ds ≡ true) tells_all_ascii_digits

one_zero : (ds : List ℕ) → is_number ds ≡ true → (0 < length ds) × (get_or ds 0 0 ≡ 48 → length ds ≡ 1)
one_zero [] h = absurd (cc)
one_zero (first ∷ []) h = (omega arith, λ _. refl)
one_zero (first ∷ second ∷ others) h = (omega arith, λ zero_first. absurd (grind (arith, common_steps)))

-- a number is what `decimal` writes of its value
pub decimal_of_value : (ds : List ℕ) → is_number ds ≡ true → number_value ds < 2 ^ 64 → decimal (number_value ds) ≡ ds
decimal_of_value ds h small =
    let zero_alone = one_zero ds h in
    decimal-digits_value own ds (sym (all_ascii ds) ∙ digits_of_number ds h) zero_alone.0 zero_alone.1 small

pub value_of_decimal : (n : ℕ) → n < 2 ^ 64 → number_value (decimal n) ≡ n
value_of_decimal n h = (decimal_is_IsNumeral n h).1

zero_alone : (n : ℕ) → n < 2 ^ 64 → get_or (decimal n) 0 0 ≡ 48 → length (decimal n) ≡ 1
unfolding digits
zero_alone zero h e = refl
zero_alone (suc k) h e = let above = first_decimal (suc k) (omega arith) h in absurd (omega (arith, above, e))

number_by : (ds : List ℕ) → all_ascii_digits ds ≡ true → 0 < length ds → (get_or ds 0 0 ≡ 48 → length ds ≡ 1) → is_number ds ≡ true
number_by [] digits filled alone = absurd (omega arith)
number_by (first ∷ others) digits filled alone =
    let same = all_ascii others in
    grind (arith, common_steps)

pub decimal_is_number : (n : ℕ) → n < 2 ^ 64 → is_number (decimal n) ≡ true
decimal_is_number n h =
    let numeral = (decimal_is_IsNumeral n h).0 in
    number_by (decimal n) (own.from (decimal n) numeral.1) numeral.0 (zero_alone n h)

-- one digit more
pub value_more : (ds : List ℕ) (i number digit : ℕ) → i < length ds → is_ascii_digit (get_or ds i 0) ≡ true → number ≡ number_value (take i ds)
    → digit ≡ get_or ds i 0 - 48 → number * 10 + digit ≡ number_value (take (i + 1) ds)
value_more ds i number digit within here before is_digit =
    let range : (48 ≤ get_or ds i 0) × (get_or ds i 0 ≤ 57) = grind (arith, common_steps) in
    let exact = digit_value_digit (get_or ds i 0) range in
    let same : digit ≡ digit_value (get_or ds i 0) = omega arith in
    ap₂ (λ a b. a * 10 + b) before same ∙ sym (digits_value_more 10 ds i within)

pub value_of_front : (ds : List ℕ) (i : ℕ) → number_value (take i ds) ≤ number_value ds
value_of_front ds i = digits_value-take-le 10 ds i (omega arith)
