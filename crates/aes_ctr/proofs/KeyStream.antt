-- The key stream byte by byte.
use Rattle.std.proofs.Common.{◌≡◌, ℕ, zero, suc, ◌+◌, ◌*◌, ◌/◌, ◌%◌, ◌<◌, ◌≤◌, List, take, drop, [], ◌∷◌, ◌++◌, length, slice_index, bit_xor, arith, refl, ap, sym, ◌∙◌, add-zero}
use lib.Bits.{xor_assoc}
use lib.Lanes.{zip2}
use Rattle.std.specs.Int.Bits.{xor_self, xor_zero_r}
use Rattle.std.proofs.lemmas.List.{drop-drop, ext_get_or, length-take-le, take-append-drop, take_all}
use Rattle.std.proofs.lemmas.Simd.{get_or-zip2, length-zip2}
use borrow.Rule.Slice.PartMut.{put_mid}
use Rattle.std.proofs.lemmas.Slice.{drop-put_mid, take-put_mid}
use Rattle.aes_ctr.proofs.Keys.{take_on}
use Rattle.aes_ctr.proofs.Pairs.{two_blocks, zip2-append}
use Rattle.aes_ctr.specs.Aes.{add_round_key, aes256, cipher}
use Rattle.aes_ctr.specs.CounterMode.{counter_mode_from, key_stream, key_stream_block}

pub length-counter_mode_from : (key : List ℕ) (place : ℕ) (text : List ℕ) → length (counter_mode_from key place text) ≡ length text
unfolding counter_mode_from
length-counter_mode_from key place [] = refl
length-counter_mode_from key place (byte ∷ text) = ap suc (length-counter_mode_from key (place + 1) text)

-- each byte is xored with the key stream at its place
pub slice_index-counter_mode_from : (key : List ℕ) (place : ℕ) (text : List ℕ) (i : ℕ) → i < length text
    → slice_index (counter_mode_from key place text) i ≡ bit_xor (slice_index text i) (key_stream key (place + i))
unfolding counter_mode_from
slice_index-counter_mode_from key place [] i within = absurd (omega arith)
slice_index-counter_mode_from key place (byte ∷ text) zero within = rw (add-zero place) refl
slice_index-counter_mode_from key place (byte ∷ text) (suc i) within =
    let same : place + 1 + i ≡ place + suc i = omega arith in
    slice_index-counter_mode_from key (place + 1) text i (omega arith) ∙ ap (λ n. bit_xor (slice_index text i) (key_stream key n)) same

-- the text in two pieces is the text in one
pub counter_mode_from-append : (key : List ℕ) (place : ℕ) (first second : List ℕ)
    → counter_mode_from key place (first ++ second) ≡ counter_mode_from key place first ++ counter_mode_from key (place + length first) second
unfolding counter_mode_from
counter_mode_from-append key place [] second = rw (add-zero place) refl
counter_mode_from-append key place (byte ∷ first) second =
    let same : place + 1 + length first ≡ place + suc (length first) = omega arith in
    ap (λ rest. bit_xor byte (key_stream key place) ∷ rest)
    (counter_mode_from-append key (place + 1) first second ∙ ap (λ n. counter_mode_from key (place + 1) first ++ counter_mode_from key n second) same)

-- the text comes back
pub counter_mode_from-twice : (key : List ℕ) (place : ℕ) (text : List ℕ) → counter_mode_from key place (counter_mode_from key place text) ≡ text
unfolding counter_mode_from
counter_mode_from-twice key place [] = refl
counter_mode_from-twice key place (byte ∷ text) =
    let stream : ℕ = key_stream key place in
    rw (xor_assoc byte stream stream, xor_self stream, xor_zero_r byte, counter_mode_from-twice key (place + 1) text) refl

-- bytes that were xored one by one
pub counter_mode_from_each : (key : List ℕ) (place : ℕ) (text out : List ℕ) → length out ≡ length text
    → ((i : ℕ) → i < length text → slice_index out i ≡ bit_xor (slice_index text i) (key_stream key (place + i)))
    → out ≡ counter_mode_from key place text
counter_mode_from_each key place text out same each =
    ext_get_or 0 _ _ (omega (arith, length-counter_mode_from key place text))
    (λ i within. each i (omega arith) ∙ sym (slice_index-counter_mode_from key place text i (omega arith)))

-- a byte of the block of key stream at hand
pub slice_index-key_stream_block : (key block : List ℕ) (place position : ℕ) → block ≡ key_stream_block key (position / 16) → position ≡ place
    → slice_index block (position % 16) ≡ key_stream key place
slice_index-key_stream_block key block place position made same = rw (made, same) refl

-- ---- whole blocks

pub length-key_stream_block : (key : List ℕ) (n : ℕ) → length (key_stream_block key n) ≡ 16
unfolding key_stream_block aes256 cipher add_round_key
length-key_stream_block key n = refl

-- a text of one block
pub zip2-key_stream_block : (key : List ℕ) (n : ℕ) (text : List ℕ) → length text ≡ 16
    → zip2 bit_xor text (key_stream_block key n) ≡ counter_mode_from key (16 * n) text
zip2-key_stream_block key n text long =
    let wide = length-key_stream_block key n in
    counter_mode_from_each key (16 * n) text _ (length-zip2 bit_xor text (key_stream_block key n) (long ∙ sym wide)) (λ i h.
    let low : (16 * n + i) % 16 ≡ i = omega arith in
    let block : (16 * n + i) / 16 ≡ n = omega arith in
    rw (low, block) (get_or-zip2 bit_xor text (key_stream_block key n) i 0 0 0 h (omega arith)))

-- a text of two blocks
pub zip2-key_stream_blocks : (key : List ℕ) (n : ℕ) (text : List ℕ) → length text ≡ 32
    → zip2 bit_xor text (key_stream_block key n ++ key_stream_block key (n + 1)) ≡ counter_mode_from key (16 * n) text
zip2-key_stream_blocks key n =
    two_blocks (λ text. zip2 bit_xor text (key_stream_block key n ++ key_stream_block key (n + 1)) ≡ counter_mode_from key (16 * n) text)
    (λ first second one two.
    let next : 16 * n + length first ≡ 16 * (n + 1) = omega (arith, one) in
    zip2-append bit_xor first second (key_stream_block key n) (key_stream_block key (n + 1)) (one ∙ sym (length-key_stream_block key n))
    ∙ rw (zip2-key_stream_block key n first one, zip2-key_stream_block key (n + 1) second two)
    (rw (counter_mode_from-append key (16 * n) first second, next) refl))

-- the text in two pieces that were xored on their own
pub append-counter_mode_from : (key : List ℕ) (place next cut : ℕ) (text head tail : List ℕ) → cut ≤ length text → next ≡ place + cut
    → head ≡ counter_mode_from key place (take cut text) → tail ≡ counter_mode_from key next (drop cut text)
    → head ++ tail ≡ counter_mode_from key place text
append-counter_mode_from key place next cut text head tail within behind first second =
    let from : next ≡ place + length (take cut text) = omega (arith, length-take-le cut text within) in
    rw (first, second, from)
    (sym (counter_mode_from-append key place (take cut text) (drop cut text)) ∙ ap (counter_mode_from key place) (take-append-drop cut text))

-- ---- a text that is xored piece by piece, from block n on

-- its first p bytes are xored, and the others are as they were
pub record IsXoredTo (key : List ℕ) (n p : ℕ) (text out : List ℕ) : Type 0 where
  pub done : take p out ≡ counter_mode_from key (16 * n) (take p text)
  pub left : drop p out ≡ drop p text

pub IsXoredTo-none : (key : List ℕ) (n : ℕ) (text : List ℕ) → IsXoredTo key n 0 text text
unfolding counter_mode_from
IsXoredTo-none key n text = record { done = refl; left = refl }

-- after a write of the next piece, of `width` bytes, to `out[p..q]`
pub IsXoredTo-put_mid : (key : List ℕ) (n m p q width : ℕ) (text out piece : List ℕ) → q ≡ p + width → q ≤ length text
    → length out ≡ length text → length piece ≡ width → m ≡ 16 * n + p → IsXoredTo key n p text out
    → piece ≡ counter_mode_from key m (take width (drop p out)) → IsXoredTo key n q text (put_mid p width out piece)
IsXoredTo-put_mid key n m p q width text out piece end room same long place before made =
    let whole : take q text ≡ take p text ++ take width (drop p text) = take_on text p width q end in
    let from : 16 * n + length (take p text) ≡ m = omega (arith, length-take-le p text (omega arith)) in
    let next : p + width ≡ q = omega arith in
    record {
      done = take-put_mid p width out piece q (omega arith) (omega arith)
          ∙ rw (whole, counter_mode_from-append key (16 * n) (take p text) (take width (drop p text)), from, before.done, made, before.left) refl;
      left = drop-put_mid p width out piece q (omega arith) (omega arith) long
          ∙ ap (λ m. drop m out) (sym next) ∙ sym (drop-drop width p out) ∙ ap (drop width) before.left
          ∙ drop-drop width p text ∙ ap (λ m. drop m text) next;
    }

pub IsXoredTo-all : (key : List ℕ) (n p : ℕ) (text out : List ℕ) → p ≡ length text → length out ≡ length text
    → IsXoredTo key n p text out → out ≡ counter_mode_from key (16 * n) text
IsXoredTo-all key n p text out all same h =
    sym (take_all p out (omega arith)) ∙ h.done ∙ ap (counter_mode_from key (16 * n)) (take_all p text (omega arith))
