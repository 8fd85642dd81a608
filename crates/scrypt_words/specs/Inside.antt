-- What a private contract says of a text.
use Rattle.std.specs.Prelude.{◌≡◌, List, ℕ, length}
use Rattle.std.specs.List.{AllPass}
use Rattle.hex.specs.Hex.{is_hex_digit}

-- a text of 64 hexadecimal digits
abbrev pub Are64HexDigits : List ℕ → Type 0
Are64HexDigits text = (length text ≡ 64) × AllPass is_hex_digit text
