use Rattle.std.proofs.Common.{◌≡◌, ◌∙◌, ◌+◌, ◌<◌, ap, sym, rules, true, arith, get_or, length, Some, List, ℕ, ◌*◌, ◌^◌, ◌≤◌, ◌&&◌, take, ap₂, add-one}
use Rattle.std.specs.List.{list_all}
use Rattle.std.specs.Char.{is_ascii_digit, digit_value}
use Rattle.std.specs.Str.Parse.{digits_value}
use Rattle.std.proofs.lemmas.List.{take_all}
use Rattle.std.proofs.lemmas.Int.Digits.{digits_value_more}
use Rattle.std.proofs.lemmas.List.Folds.{list_all_more}
use Rattle.std.proofs.lemmas.Str.{digit_value_digit}
use Rattle.std.proofs.Math.Nat.{pow-suc}
use Rattle.std.proofs.lemmas.Grind.{common_steps}
use Rattle.command_words.specs.Number.{number_of}
use Rattle.command_words.proofs.numbers.number.Goals as goal

-- a digit's value, and its greatest code
digit_is : (c : ℕ) → is_ascii_digit c ≡ true → (digit_value c + 48 ≡ c) × (c ≤ 57)
digit_is c h =
    let range : (48 ≤ c) × (c ≤ 57) = grind (arith, common_steps) in
    (digit_value_digit c range, range.1)

-- one more byte that is a digit
digits_more_true : (bs : List ℕ) (i : ℕ) → i < length bs → list_all is_ascii_digit (take i bs) ≡ true → is_ascii_digit (get_or bs i 0) ≡ true
    → list_all is_ascii_digit (take (i + 1) bs) ≡ true
digits_more_true bs i within before here = list_all_more is_ascii_digit bs i 0 within ∙ ap₂ (λ a b. a && b) before here

-- the value with one digit more
value_more : (bs : List ℕ) (i v d : ℕ) → i < length bs → is_ascii_digit (get_or bs i 0) ≡ true → v ≡ digits_value 10 (take i bs)
    → d + 48 ≡ get_or bs i 0 → v * 10 + d ≡ digits_value 10 (take (i + 1) bs)
value_more bs i v d within here value is_d =
    let digit = (digit_is (get_or bs i 0) here).0 in
    let same : d ≡ digit_value (get_or bs i 0) = omega arith in
    ap₂ (λ a b. a * 10 + b) value same ∙ sym (digits_value_more 10 bs i within)

-- and its bound
power_more : (i v d : ℕ) → v < 10 ^ i → d < 10 → v * 10 + d < 10 ^ (i + 1)
power_more i v d small digit = rw (add-one, pow-suc) (omega arith)

-- a word of the right length that has only digits is a number word
number_is : (word : List ℕ) → 0 < length word → length word ≤ 20 → list_all is_ascii_digit word ≡ true → number_of word ≡ Some (digits_value 10 word)
number_is word filled short digits = grind (arith, common_steps)

pub loop-byte-preserved : goal.loop-byte-preserved
loop-byte-preserved c =
    let word = c.args.word.now in
    let i = c.loop-byte.byte-index in
    let within : i < length word = omega arith in
    let here : is_ascii_digit (get_or word i 0) ≡ true = search rules in
    let digit = digit_is (get_or word i 0) here in
    let is_d : c.from.result + 48 ≡ get_or word i 0 =
    omega (arith, c.from.ensures, ap (λ (xs : List ℕ). get_or xs i 0) c.as_bytes-byte-items.ensures.value) in
    record {
      digits = digits_more_true word i within c.loop-byte.invariant.digits here;
      value = value_more word i c.loop-byte.value c.from.result within here c.loop-byte.invariant.value is_d;
      small = power_more i c.loop-byte.value c.from.result c.loop-byte.invariant.small (omega arith);
    }

pub returns : goal.returns
returns c =
    let word = c.args.word.now in
    let all = take_all c.loop-byte.byte-index word (omega arith) in
    let digits : list_all is_ascii_digit word ≡ true = sym (ap (list_all is_ascii_digit) all) ∙ c.loop-byte.invariant.digits in
    let value : c.loop-byte.value ≡ digits_value 10 word = c.loop-byte.invariant.value ∙ ap (digits_value 10) all in
    let filled : 0 < length word = grind arith in
    record { value = ap Some value ∙ sym (number_is word filled (omega arith) digits) }
