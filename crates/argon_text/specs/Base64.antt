-- The form of base64 in the standard alphabet, without padding, by cases on its symbols (RFC 4648, 3.2, 3.5 and 4).
use Rattle.std.specs.Prelude.{ℕ, ◌+◌, ◌*◌, ◌/◌, ◌%◌, ◌==◌, nat_lt, Bool, true, false, ◌&&◌, List, [], ◌∷◌, codes}
use Rattle.std.specs.List.{position_or_len}

-- the alphabet (4, table 1)
abbrev pub alphabet : List ℕ
alphabet = codes "ABCDEFGHIJKLMNOPQRSTUVWXYZabcdefghijklmnopqrstuvwxyz0123456789+/"

-- the six bits that a symbol stands for: its place in the alphabet, or 64 where a byte is no symbol (4, table 1)
unfoldable pub symbol_value : ℕ → ℕ
symbol_value byte = position_or_len (λ symbol. symbol == byte) alphabet

-- whether a byte is a symbol of the alphabet (4, table 1)
abbrev pub is_symbol : ℕ → Bool
is_symbol byte = nat_lt (symbol_value byte) 64

-- whether bytes are groups of four symbols, and then none, or two or three with their unused last bits zero (3.2,
-- 3.5, 4)
unfoldable pub is_base64 : List ℕ → Bool
is_base64 [] = true
is_base64 (a ∷ []) = false
is_base64 (a ∷ b ∷ []) = is_symbol a && is_symbol b && (symbol_value b % 16 == 0)
is_base64 (a ∷ b ∷ c ∷ []) = is_symbol a && is_symbol b && is_symbol c && (symbol_value c % 4 == 0)
is_base64 (a ∷ b ∷ c ∷ d ∷ rest) = is_symbol a && is_symbol b && is_symbol c && is_symbol d && is_base64 rest

-- the bytes that symbols stand for: three of four symbols, one of two, two of three (4)
unfoldable pub base64_bytes : List ℕ → List ℕ
base64_bytes [] = []
base64_bytes (a ∷ []) = []
base64_bytes (a ∷ b ∷ []) = (symbol_value a * 4 + symbol_value b / 16) ∷ []
base64_bytes (a ∷ b ∷ c ∷ []) =
    (symbol_value a * 4 + symbol_value b / 16) ∷ (symbol_value b % 16 * 16 + symbol_value c / 4) ∷ []
base64_bytes (a ∷ b ∷ c ∷ d ∷ rest) =
    (symbol_value a * 4 + symbol_value b / 16) ∷ (symbol_value b % 16 * 16 + symbol_value c / 4)
    ∷ (symbol_value c % 4 * 64 + symbol_value d) ∷ base64_bytes rest
