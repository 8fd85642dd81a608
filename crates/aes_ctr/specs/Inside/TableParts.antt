-- The S-box in parts that are looked up one by one. Only private functions cite this.
use Rattle.std.specs.Prelude.{ℕ, ◌+◌, ◌*◌, ◌%◌, ◌==◌, bit_and, if◌then◌else◌}
use Rattle.aes_ctr.specs.Aes.{sub_byte}

-- with the S-box (FIPS 197, 5.1.1) in parts of `size` entries: what part n has for the low bits of b
abbrev pub s_box_part_entry : ℕ → ℕ → ℕ → ℕ
s_box_part_entry size n b = sub_byte (size * n + b % size)

-- what f has for b where that bit of b is set, else what g has
abbrev pub choice : ℕ → (ℕ → ℕ) → (ℕ → ℕ) → ℕ → ℕ
choice bit f g b = if bit_and b bit == bit then f b else g b
