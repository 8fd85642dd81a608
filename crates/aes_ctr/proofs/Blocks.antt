-- Steps that make blocks of sixteen bytes.
use Rattle.std.proofs.Common.{◌≡◌, ℕ, ◌+◌, ◌*◌, ◌%◌, ◌<◌, List, [], ◌∷◌, ap, arith, bit_xor, drop, get_or, length, map, refl, sym, ◌∙◌}
use lib.Lanes.{Each1, zip2}
use Rattle.std.proofs.lemmas.List.{length-map}
use Rattle.std.proofs.lemmas.Nat.{xor_lt}
use Rattle.std.proofs.lemmas.Nat.Bits.{same_from_bits_below}
use Rattle.std.proofs.lemmas.Simd.{Each1-get_or, Each1-zip2, Each2-of, length-zip2}
use Rattle.aes_ctr.specs.Aes.{add_round_key, byte_at, mix_columns, product, shift_rows, aes_state_of_entries, sub_byte, sub_bytes}
use Rattle.aes_ctr.specs.Planes.{AreBytes, IsAesBlock, bits, round_key}
use Rattle.aes_ctr.specs.Inside.PlaneSteps.{row_below_in_plane}
use Rattle.aes_ctr.proofs.Bytes.{product_two-lt, sub_byte-lt}
use Rattle.aes_ctr.proofs.Doubles.{mix_columns-pairs, pairs}
use Rattle.aes_ctr.proofs.Sixteen.{map-sub_byte, xor-round_key}

IsAesBlock-aes_state_of_entries : (entry : ℕ → ℕ → ℕ) → ((row column : ℕ) → row < 4 → column < 4 → entry row column < 256) → IsAesBlock (aes_state_of_entries entry)
IsAesBlock-aes_state_of_entries entry e = (refl, (e 0 0 (omega arith) (omega arith), (e 1 0 (omega arith) (omega arith), (e 2 0 (omega arith) (omega arith), (e 3 0 (omega arith) (omega arith), (e 0 1 (omega arith) (omega arith), (e 1 1 (omega arith) (omega arith), (e 2 1 (omega arith) (omega arith), (e 3 1 (omega arith) (omega arith), (e 0 2 (omega arith) (omega arith), (e 1 2 (omega arith) (omega arith), (e 2 2 (omega arith) (omega arith), (e 3 2 (omega arith) (omega arith), (e 0 3 (omega arith) (omega arith), (e 1 3 (omega arith) (omega arith), (e 2 3 (omega arith) (omega arith), (e 3 3 (omega arith) (omega arith), tt)))))))))))))))))

byte_at-lt : (x : List ℕ) → IsAesBlock x → (row column : ℕ) → row < 4 → column < 4 → byte_at x row column < 256
byte_at-lt x ok row column h i = Each1-get_or (λ a. a < 256) x (row + 4 * column) 0 (omega (arith, ok.0)) ok.1

pub IsAesBlock-shift_rows : (x : List ℕ) → IsAesBlock x → IsAesBlock (shift_rows x)
unfolding shift_rows
IsAesBlock-shift_rows x ok = IsAesBlock-aes_state_of_entries (λ row column. byte_at x row ((column + row) % 4)) (λ row column h i. byte_at-lt x ok row ((column + row) % 4) h (omega arith))

pub IsAesBlock-row_below_in_plane : (x : List ℕ) → IsAesBlock x → IsAesBlock (row_below_in_plane x)
unfolding row_below_in_plane
IsAesBlock-row_below_in_plane x ok = IsAesBlock-aes_state_of_entries (λ row column. byte_at x ((row + 1) % 4) column) (λ row column h i. byte_at-lt x ok ((row + 1) % 4) column (omega arith) i)

Each1-map : (f : ℕ → ℕ) → ((a : ℕ) → a < 256 → f a < 256) → (x : List ℕ) → Each1 (λ a. a < 256) x → Each1 (λ a. a < 256) (map f x)
Each1-map f e [] h = tt
Each1-map f e (a ∷ x) h = (e a h.0, Each1-map f e x h.1)

pub AreBytes-map : {n : ℕ} (f : ℕ → ℕ) → ((a : ℕ) → a < 256 → f a < 256) → (x : List ℕ) → AreBytes n x → AreBytes n (map f x)
AreBytes-map f e x ok = (length-map x f ∙ ok.0, Each1-map f e x ok.1)

pub IsAesBlock-sub_bytes : (x : List ℕ) → IsAesBlock x → IsAesBlock (sub_bytes x)
IsAesBlock-sub_bytes x ok = rw (← map-sub_byte x ok.0) (AreBytes-map sub_byte sub_byte-lt x ok)

pub AreBytes-xor : {n : ℕ} (x y : List ℕ) → AreBytes n x → AreBytes n y → AreBytes n (zip2 bit_xor x y)
AreBytes-xor x y ok also = (
  length-zip2 bit_xor x y (ok.0 ∙ sym also.0) ∙ ok.0,
  Each1-zip2 bit_xor (λ a. a < 256) x y (Each2-of (λ a. a < 256) (λ a. a < 256) (λ a b. bit_xor a b < 256) (λ a b h i. xor_lt 8 a b h i) x y ok.1 also.1),
)

pub IsAesBlock-mix_columns : (x : List ℕ) → IsAesBlock x → IsAesBlock (mix_columns x)
IsAesBlock-mix_columns x ok =
    let sums : IsAesBlock (pairs x) = AreBytes-xor x (row_below_in_plane x) ok (IsAesBlock-row_below_in_plane x ok) in
    rw (← mix_columns-pairs x ok)
    (AreBytes-xor (map (product 2) (pairs x)) (zip2 bit_xor (row_below_in_plane x) (row_below_in_plane (row_below_in_plane (pairs x)))) (AreBytes-map (product 2) product_two-lt (pairs x) sums)
    (AreBytes-xor (row_below_in_plane x) (row_below_in_plane (row_below_in_plane (pairs x))) (IsAesBlock-row_below_in_plane x ok) (IsAesBlock-row_below_in_plane (row_below_in_plane (pairs x)) (IsAesBlock-row_below_in_plane (pairs x) sums))))

pub IsAesBlock-add_round_key : (words : List (List ℕ)) (round : ℕ) → IsAesBlock (round_key words round) → (x : List ℕ) → IsAesBlock x → IsAesBlock (add_round_key words round x)
IsAesBlock-add_round_key words round key x ok = rw (← xor-round_key words round x ok.0) (AreBytes-xor x (round_key words round) ok key)

-- ---- bytes with the same bits

bits-same : (x y : List ℕ) → length x ≡ length y → Each1 (λ a. a < 256) x → Each1 (λ a. a < 256) y → ((k : ℕ) → k < 8 → bits k x ≡ bits k y) → x ≡ y
bits-same [] [] long h i e = refl
bits-same [] (b ∷ y) long h i e = absurd (omega arith)
bits-same (a ∷ x) [] long h i e = absurd (omega arith)
bits-same (a ∷ x) (b ∷ y) long h i e =
    let head : a ≡ b = same_from_bits_below 8 a b h.0 i.0 (λ k small. ap (λ l. get_or l 0 0) (e k small)) in
    let tail : x ≡ y = bits-same x y (omega arith) h.1 i.1 (λ k small. ap (drop 1) (e k small)) in
    rw (head, tail) refl

pub AreBytes-same : {n : ℕ} (x y : List ℕ) → AreBytes n x → AreBytes n y → ((k : ℕ) → k < 8 → bits k x ≡ bits k y) → x ≡ y
AreBytes-same x y ok also = bits-same x y (ok.0 ∙ sym also.0) ok.1 also.1
