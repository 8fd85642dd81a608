-- A part of scrypt's B, made of the blocks of PBKDF2.
use Rattle.std.proofs.Common.{◌≡◌, ℕ, ◌+◌, ◌-◌, ◌*◌, ◌<◌, ◌≤◌, List, ◌++◌, length, take, drop, slice_index, arith, ap, sym, ◌∙◌, inl, inr}
use Rattle.std.proofs.Math.Nat.{mul-le-mul_left}
use Rattle.std.proofs.lemmas.Bool.{cases_lt}
use Rattle.std.proofs.lemmas.List.{drop-drop, drop-take, take-take, get_or-take, get_or_append_left, get_or-append-add, length-take-le}
use Rattle.std.proofs.lemmas.List.Concat.{flat_map-append}
use Rattle.byteorder.specs.Endian.{IsRead, little_bytes, little_number}
use Rattle.byteorder.specs.Numbers.{little_from-take}
use Rattle.macs.specs.Pbkdf2.{pbkdf2, pbkdf2_block}
use Rattle.macs.proofs.Parts.{key-block}
use Rattle.romix.specs.BlockMix.{block_at}
use Rattle.romix.specs.Scrypt.{octets_of, part_at}
use Rattle.romix.proofs.Naturals.{take-block_at}

inside : (xs : List ℕ) (i n m : ℕ) → i + n ≤ m → take n (drop i (take m xs)) ≡ take n (drop i xs)
inside xs i n m h = sym (drop-take i n (take m xs)) ∙ ap (drop i) (take-take (i + n) m xs h) ∙ drop-take i n xs

-- block i of part k
pub part-block : (password salt : List ℕ) (r k p i : ℕ) → k < p → i < 4 * r
    → take 32 (drop (32 * i) (part_at (pbkdf2 password salt (128 * r * p)) r k)) ≡ pbkdf2_block password salt (4 * r * k + i + 1)
part-block password salt r k p i h low =
    let fits : 4 * r * (k + 1) ≤ 4 * r * p = mul-le-mul_left (4 * r) (let l : k + 1 ≤ p = omega arith in l) in
    let at : 128 * r * k + 32 * i ≡ 32 * (4 * r * k + i) = omega arith in
    inside (drop (128 * r * k) (pbkdf2 password salt (128 * r * p))) (32 * i) 32 (128 * r) (omega arith)
    ∙ rw (drop-drop (32 * i) (128 * r * k) (pbkdf2 password salt (128 * r * p)), at)
    (key-block password salt (128 * r * p) (4 * r * k + i) (omega (arith, fits)))

-- word t of block i
word_of_block : (part block : List ℕ) (i t : ℕ) → block ≡ take 32 (drop (32 * i) part) → t < 8
    → little_number 4 (drop (4 * t) block) ≡ little_number 4 (drop (4 * (8 * i + t)) part)
word_of_block part block i t e h =
    let whole : 32 ≡ 4 * t + (32 - 4 * t) = omega arith in
    let at : 4 * (8 * i + t) ≡ 32 * i + 4 * t = omega arith in
    let rest : List ℕ = drop (32 * i) part in
    let cut : drop (4 * t) block ≡ take (32 - 4 * t) (drop (4 * t) rest) =
    ap (drop (4 * t)) (e ∙ ap (λ (n : ℕ). take n rest) whole) ∙ drop-take (4 * t) (32 - 4 * t) rest in
    ap (little_number 4) cut ∙ little_from-take 0 4 (32 - 4 * t) (drop (4 * t) rest) (omega arith)
    ∙ ap (little_number 4) (drop-drop (4 * t) (32 * i) part ∙ ap (λ (n : ℕ). drop n part) (sym at))

-- the words of one more block
pub words_more : (part block row words new : List ℕ) (i : ℕ) → 8 * i ≤ length row → length words ≡ 8
    → take (8 * (i + 1)) new ≡ take (8 * i) row ++ words
    → block ≡ take 32 (drop (32 * i) part) → IsRead little_number 4 block words
    → ((j : ℕ) → j < 8 * i → slice_index row j ≡ little_number 4 (drop (4 * j) part))
    → (j : ℕ) → j < 8 * (i + 1) → slice_index new j ≡ little_number 4 (drop (4 * j) part)
words_more part block row words new i room long put is read had j h =
    let there : slice_index new j ≡ slice_index (take (8 * i) row ++ words) j =
    sym (get_or-take (8 * (i + 1)) new j 0 h) ∙ ap (λ (l : List ℕ). slice_index l j) put in
    elim (cases_lt j (8 * i)) [
      | inl low ↦ there ∙ get_or_append_left (take (8 * i) row) words 0 j (omega (arith, length-take-le (8 * i) row room)) ∙ get_or-take (8 * i) row j 0 low ∙ had j low
      | inr g ↦
          let t : ℕ = j - 8 * i in
          let e : j ≡ 8 * i + t = omega arith in
          let f : 8 * i + t ≡ length (take (8 * i) row) + t = omega (arith, length-take-le (8 * i) row room) in
          there ∙ ap (slice_index (take (8 * i) row ++ words)) (e ∙ f) ∙ get_or-append-add (take (8 * i) row) words t 0
          ∙ read t (omega (arith, long)) ∙ word_of_block part block i t is (omega arith) ∙ ap (λ (n : ℕ). little_number 4 (drop (4 * n) part)) (sym e)
    ]

-- the octets of one more block
pub octets_more : (row o : List ℕ) (i : ℕ) → 16 * i ≤ length row → o ≡ octets_of (block_at row i)
    → octets_of (take (16 * i) row) ++ o ≡ octets_of (take (16 * (i + 1)) row)
octets_more row o i h e =
    ap (λ (l : List ℕ). octets_of (take (16 * i) row) ++ l) e ∙ sym (flat_map-append (little_bytes 4) (take (16 * i) row) (block_at row i))
    ∙ ap octets_of (take-block_at row i h)
