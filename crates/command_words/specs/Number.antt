-- Number words: one to twenty ASCII digits, leading zeros allowed.
use Rattle.std.specs.Prelude.{◌&&◌, ℕ, Bool, Option, Some, None, length, nat_lt, nat_le, option_and_then, if◌then◌else◌}
use Rattle.std.specs.List.{list_all}
use Rattle.std.specs.Char.{is_ascii_digit}
use Rattle.std.specs.Str.Parse.{digits_value}
use Rattle.host.specs.HostState.{Text}

-- whether a word is a number word: one to twenty ASCII digits
abbrev pub is_number_word : Text → Bool
is_number_word word = nat_lt 0 (length word) && (nat_le (length word) 20 && list_all is_ascii_digit word)

-- the number that a number word writes in decimal
abbrev pub number_of : Text → Option ℕ
number_of word = if is_number_word word then Some (digits_value 10 word) else None

-- the number of a number word that is at least `least` and below `end`: with 1 and 32, the powers of two that a word
-- may name, it is 1 to 31
abbrev pub number_in : ℕ → ℕ → Text → Option ℕ
number_in least end text =
    option_and_then (λ n. if nat_le least n && nat_lt n end then Some n else None) (number_of text)
