use Rattle.std.proofs.Common.{◌≡◌, ℕ, zero, suc, ◌+◌, ◌*◌, ◌/◌, ◌%◌, ◌^◌, ◌<◌, List, [], ◌∷◌, ◌++◌, ap, arith, length, refl, w64, ◌∙◌}
use Rattle.std.specs.Int.{byte_at, bytes_high_first, swap_bytes, to_be_bytes}
use lib.Lanes.{Each1, digits_l, number_l}
use Rattle.aes_ctr.specs.CounterMode.{counter_block}
use Rattle.aes_ctr.proofs.key_stream.counter_block.Goals as goal

-- the bytes of a number that was made of bytes
digits_l-number_l : (bytes : List ℕ) → Each1 (λ byte. byte < 256) bytes → digits_l 256 (length bytes) (number_l 256 bytes) ≡ bytes
digits_l-number_l [] h = refl
digits_l-number_l (byte ∷ bytes) h =
    let least : byte < 256 = h.0 in
    let low : (byte + 256 * number_l 256 bytes) % 256 ≡ byte = omega arith in
    let high : (byte + 256 * number_l 256 bytes) / 256 ≡ number_l 256 bytes = omega arith in
    rw (low, high, digits_l-number_l bytes h.1) refl

byte_at-lt : (i n : ℕ) → byte_at i n < 256
byte_at-lt zero n = omega arith
byte_at-lt (suc i) n = omega arith

-- the bytes of a number before others
bytes_high_first-lt : (k n : ℕ) (rest : List ℕ) → Each1 (λ byte. byte < 256) rest → Each1 (λ byte. byte < 256) (bytes_high_first k n ++ rest)
bytes_high_first-lt zero n rest h = h
bytes_high_first-lt (suc k) n rest h = (byte_at-lt k n, bytes_high_first-lt k n rest h)

-- eight zeros and eight bytes, the first of them the lowest of the upper lane
number_l-lanes : (b0 b1 b2 b3 b4 b5 b6 b7 : ℕ)
    → number_l (2 ^ 64) (0 ∷ (b0 * 256 ^ 7 + b1 * 256 ^ 6 + b2 * 256 ^ 5 + b3 * 256 ^ 4 + b4 * 256 ^ 3 + b5 * 256 ^ 2 + b6 * 256 ^ 1 + b7) ∷ [])
    ≡ number_l 256 (0 ∷ 0 ∷ 0 ∷ 0 ∷ 0 ∷ 0 ∷ 0 ∷ 0 ∷ b7 ∷ b6 ∷ b5 ∷ b4 ∷ b3 ∷ b2 ∷ b1 ∷ b0 ∷ [])
number_l-lanes b0 b1 b2 b3 b4 b5 b6 b7 = omega arith

digits_l-counter_block : (n : ℕ) → digits_l 256 16 (number_l (2 ^ 64) (0 ∷ swap_bytes w64 n ∷ [])) ≡ counter_block n
digits_l-counter_block n =
    ap (digits_l 256 16) (number_l-lanes (byte_at 0 n) (byte_at 1 n) (byte_at 2 n) (byte_at 3 n) (byte_at 4 n) (byte_at 5 n) (byte_at 6 n) (byte_at 7 n))
    ∙ digits_l-number_l (counter_block n) (bytes_high_first-lt 8 0 (to_be_bytes w64 n) (bytes_high_first-lt 8 n [] tt))

pub returns : goal.returns
returns c = record { block = rw c.swap_bytes.ensures (digits_l-counter_block c.args.number) }
