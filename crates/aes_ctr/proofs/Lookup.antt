-- The S-box looked up in parts.
use Rattle.std.proofs.Common.{◌≡◌, ℕ, ◌+◌, ◌-◌, ◌*◌, ◌/◌, ◌%◌, ◌<◌, Bool, true, false, List, ap, arith, bit_and, cond, drop, eqb, get_or, length, map, refl, replicate, sym, take, w8, Fits, ◌∙◌}
use lib.Lanes.{Each1, sel_l, top, zip2}
use Rattle.std.specs.List.{range_with_len}
use Rattle.std.proofs.lemmas.List.{ext_get_or, get_or-drop, get_or-map, get_or-take, length-drop, length-map, length-take-le, take-take}
use Rattle.std.proofs.lemmas.List.FromFn.{get_or-map-range_with_len, length-map-range_with_len}
use Rattle.std.proofs.lemmas.Simd.{get_or-swz_l_below, length-swz_l, swz_l, tops_compared, zip2_splat}
use Rattle.aes_ctr.specs.Aes.{sub_byte}
use Rattle.aes_ctr.specs.Inside.TableParts.{choice, s_box_part_entry}
use Rattle.aes_ctr.proofs.Bytes.{HasLowBits, bit_and-fifteen}
use Rattle.aes_ctr.proofs.Sixteen.{map-agreeing, sixteen_lanes}

-- row n of the table, the first sixteen entries of those from 16 n on
pub take-table : (n : ℕ) → n < 16
    → take 16 (take (256 - 16 * n) (drop (16 * n) (map sub_byte (range_with_len 0 256)))) ≡ map sub_byte (range_with_len (16 * n) 16)
take-table n h =
    let table : List ℕ = map sub_byte (range_with_len 0 256) in
    let long : length (take 16 (drop (16 * n) table)) ≡ 16 =
    length-take-le 16 (drop (16 * n) table) (omega (arith, length-drop (16 * n) table, length-map-range_with_len sub_byte 0 256)) in
    take-take 16 (256 - 16 * n) (drop (16 * n) table) (omega arith)
    ∙ ext_get_or 0 _ _ (long ∙ sym (length-map-range_with_len sub_byte (16 * n) 16)) (λ i low.
    let within : i < 16 = omega (arith, long) in
    get_or-take 16 (drop (16 * n) table) i 0 within ∙ get_or-drop (16 * n) table i 0
    ∙ get_or-map-range_with_len sub_byte 0 256 (16 * n + i) (16 * n + i) 0 (omega arith) (omega arith)
    ∙ sym (get_or-map-range_with_len sub_byte (16 * n) 16 i (16 * n + i) 0 within refl))

-- that row at the four low bits of bytes
pub swz_l-row : (n : ℕ) (x : List ℕ) → length x ≡ 16 → Each1 (Fits w8) x
    → swz_l w8 16 (map sub_byte (range_with_len (16 * n) 16)) 0 (zip2 bit_and x (replicate 16 15)) ≡ map (s_box_part_entry 16 n) x
swz_l-row n x long bytes =
    let low : ℕ → ℕ = λ a. a % 16 in
    let entries : List ℕ = map sub_byte (range_with_len (16 * n) 16) in
    let places : zip2 bit_and x (replicate 16 15) ≡ map low x = zip2_splat bit_and x 16 15 long ∙ map-agreeing (λ a. bit_and a 15) low bit_and-fifteen x bytes in
    let many : length (swz_l w8 16 entries 0 (map low x)) ≡ 16 = length-swz_l w8 16 entries 0 (map low x) ∙ length-map x low ∙ long in
    rw places (ext_get_or 0 _ _ (many ∙ sym (length-map x (s_box_part_entry 16 n) ∙ long)) (λ i h.
    let within : i < 16 = omega (arith, many) in
    let place : 16 * ((0 + i) / 16) + get_or x i 0 % 16 ≡ get_or x i 0 % 16 = omega arith in
    let at : get_or (map low x) i 0 ≡ get_or x i 0 % 16 = get_or-map low x i 0 0 (omega arith) in
    get_or-swz_l_below w8 16 entries 0 (map low x) i (omega (arith, length-map x low)) (omega arith)
    ∙ rw (at, place) (get_or-map-range_with_len sub_byte (16 * n) 16 (get_or x i 0 % 16) (16 * n + get_or x i 0 % 16) 0 (omega arith) refl)
    ∙ sym (get_or-map (s_box_part_entry 16 n) x i 0 0 (omega arith))))

-- a choice by one bit
pub sel_l-choice : (bit : ℕ) (f g : ℕ → ℕ) (x set clear : List ℕ) → length x ≡ 16 → set ≡ map f x → clear ≡ map g x
    → sel_l (map (top 7) (zip2 (λ a b. cond (eqb a b) 255 0) (zip2 bit_and x (replicate 16 bit)) (replicate 16 bit))) set clear ≡ map (choice bit f g) x
sel_l-choice bit f g x set clear long e h =
    rw (e, h, tops_compared w8 eqb (zip2 bit_and x (replicate 16 bit)) (replicate 16 bit))
    (sixteen_lanes (λ x. sel_l (zip2 eqb (zip2 bit_and x (replicate 16 bit)) (replicate 16 bit)) (map f x) (map g x) ≡ map (choice bit f g) x)
    (λ x0 x1 x2 x3 x4 x5 x6 x7 x8 x9 x10 x11 x12 x13 x14 x15. refl) x long)

cond-sub_byte : (t : Bool) (size n m : ℕ)
    → cond t (sub_byte (size * (2 * n + 1) + m)) (sub_byte (size * (2 * n) + m)) ≡ sub_byte (size * (2 * n) + cond t (size + m) m)
cond-sub_byte true size n m = ap sub_byte (let e : size * (2 * n + 1) + m ≡ size * (2 * n) + (size + m) = omega arith in e)
cond-sub_byte false size n m = refl

-- two neighbouring parts of the table make one of twice the size
choice-s_box_part_entry : (size n : ℕ) → HasLowBits size → (b : ℕ) → b < 256
    → choice size (s_box_part_entry size (2 * n + 1)) (s_box_part_entry size (2 * n)) b ≡ s_box_part_entry (2 * size) n b
choice-s_box_part_entry size n low b h =
    let same : size * (2 * n) ≡ 2 * size * n = omega arith in
    cond-sub_byte (eqb (bit_and b size) size) size n (b % size) ∙ ap (λ m. sub_byte (size * (2 * n) + m)) (low b h)
    ∙ ap (λ m. sub_byte (m + b % (2 * size))) same

pub map-choice-s_box_part_entry : (size n : ℕ) → HasLowBits size → (x : List ℕ) → Each1 (Fits w8) x
    → map (choice size (s_box_part_entry size (2 * n + 1)) (s_box_part_entry size (2 * n))) x ≡ map (s_box_part_entry (2 * size) n) x
map-choice-s_box_part_entry size n low x bytes =
    map-agreeing (choice size (s_box_part_entry size (2 * n + 1)) (s_box_part_entry size (2 * n))) (s_box_part_entry (2 * size) n) (choice-s_box_part_entry size n low) x bytes

-- the table in one part
pub map-s_box_part_entry-whole : (x : List ℕ) → Each1 (Fits w8) x → map (s_box_part_entry 256 0) x ≡ map sub_byte x
map-s_box_part_entry-whole x bytes =
    map-agreeing (s_box_part_entry 256 0) sub_byte (λ b h. ap sub_byte (let e : 256 * 0 + b % 256 ≡ b = omega arith in e)) x bytes
