-- The reference set W of RFC 9106, 3.4.2 is one run of numbers.
use Rattle.std.proofs.Common.{◌≡◌, ℕ, zero, suc, ◌+◌, ◌-◌, ◌*◌, ◌%◌, ◌<◌, ◌≤◌, Bool, true, false, ◌||◌, ◌++◌, length, take, slice_index, refl, ◌∙◌, arith, nat_eq}
use Rattle.std.specs.Prelude.{if◌then◌else◌}
use Rattle.std.specs.List.{range_with_len}
use Rattle.std.proofs.lemmas.List.FromFn.{length-range_with_len, get_or-range_with_len}
use Rattle.std.proofs.Math.Nat.{mul-le-mul_right, mul-add-mod_self_right, mod_self}
use Rattle.argon.specs.Inside.Places.{reference_set_start, reference_set_len, candidate_count}
use Rattle.argon.specs.Reference.{candidate_columns, reference_set, relative_place}

-- one run after another
pub range-append : (a b m n : ℕ) → b ≡ a + m → range_with_len a m ++ range_with_len b n ≡ range_with_len a (m + n)
range-append a b zero n e = let f : b ≡ a = omega arith in let g : 0 + n ≡ n = omega arith in rw (f, g) refl
range-append a b (suc m) n e =
    let ih = range-append (a + 1) b m n (omega arith) in
    let g : suc m + n ≡ suc (m + n) = omega arith in rw (g, ih) refl

-- the front of a run
pub take-range : (a n k : ℕ) → k ≤ n → take k (range_with_len a n) ≡ range_with_len a k
take-range a n zero h = refl
take-range a zero (suc k) h = absurd (omega arith)
take-range a (suc n) (suc k) h = rw (take-range (a + 1) n k (omega arith)) refl

pub range_join : (a b m n c k : ℕ) → b ≡ a + m → c ≡ a → k ≡ m + n → range_with_len a m ++ range_with_len b n ≡ range_with_len c k
range_join a b m n c k e f g = rw (f, g) (range-append a b m n e)

-- three runs, one after another
range_join3 : (a b d m n o c k : ℕ) → b ≡ a + m → d ≡ b + n → c ≡ a → k ≡ m + n + o
    → (range_with_len a m ++ range_with_len b n) ++ range_with_len d o ≡ range_with_len c k
range_join3 a b d m n o c k e f g h =
    let two : range_with_len a m ++ range_with_len b n ≡ range_with_len a (m + n) = range-append a b m n e in
    rw two (range_join a d (m + n) o c k (omega arith) g h)

pub columns_standing_is : (s pass slice index : ℕ) (is_own : Bool) → slice < 4
    → candidate_columns s pass slice index is_own ≡ range_with_len (reference_set_start s pass slice) (candidate_count s pass slice (if is_own then index else 0))
columns_standing_is s zero slice index is_own h =
    range_join _ _ _ _ 0 (slice * s + (if is_own then index else 0)) (omega arith) (omega arith) (omega arith)
columns_standing_is s (suc before) slice index is_own h =
    let le : (slice + 1) * s ≤ 4 * s = mul-le-mul_right s (omega arith) in
    range_join3 _ _ _ _ _ _ (before * (4 * s) + (slice + 1) * s) (3 * s + (if is_own then index else 0))
    (omega arith) (omega arith) refl (omega arith)

-- a run without its last, where it is to go
front_kept : (a n : ℕ) (b : Bool)
    → (if b then take (length (range_with_len a n) - 1) (range_with_len a n) else range_with_len a n) ≡ range_with_len a (n - (if b then 1 else 0))
front_kept a n true =
    let len : length (range_with_len a n) ≡ n = length-range_with_len a n in
    rw len (take-range a n (n - 1) (omega arith))
front_kept a n false = let e : n - 0 ≡ n = omega arith in rw e refl

one_at_most : (b : Bool) → (if b then 1 else 0) ≤ 1
one_at_most true = omega arith
one_at_most false = omega arith

pub reference_set_is : (s pass slice index : ℕ) (is_own : Bool) → slice < 4
    → reference_set s pass slice index is_own ≡ range_with_len (reference_set_start s pass slice) (reference_set_len s pass slice index is_own)
reference_set_is s pass slice index is_own h =
    rw (columns_standing_is s pass slice index is_own h)
    (front_kept (reference_set_start s pass slice) (candidate_count s pass slice (if is_own then index else 0)) (is_own || nat_eq index 0))

-- the place that J 1 names is in the set
pub relative_place-lt : (w j : ℕ) → 0 < w → relative_place w j < w
relative_place-lt w j h = omega arith

-- the number that J 1 names
named_is : (s pass slice index : ℕ) (is_own : Bool) (j r : ℕ) → slice < 4 → 0 < reference_set_len s pass slice index is_own
    → r ≡ slice_index (reference_set s pass slice index is_own) (relative_place (length (reference_set s pass slice index is_own)) j)
    → r ≡ reference_set_start s pass slice + relative_place (reference_set_len s pass slice index is_own) j
named_is s pass slice index is_own j r hl some e =
    let is : reference_set s pass slice index is_own ≡ range_with_len (reference_set_start s pass slice) (reference_set_len s pass slice index is_own) =
    reference_set_is s pass slice index is_own hl in
    let len : length (range_with_len (reference_set_start s pass slice) (reference_set_len s pass slice index is_own)) ≡ reference_set_len s pass slice index is_own =
    length-range_with_len _ _ in
    let r' : r ≡ slice_index (range_with_len (reference_set_start s pass slice) (reference_set_len s pass slice index is_own))
    (relative_place (reference_set_len s pass slice index is_own) j) = rw (is, len) at e in
    r' ∙ get_or-range_with_len _ _ _ 0 (relative_place-lt _ j some)

-- in the first pass something stands, too
some_first : (s slice index : ℕ) (is_own : Bool) → 2 ≤ s → (slice ≡ 0 → (2 ≤ index) × (is_own ≡ true))
    → 0 < reference_set_len s 0 slice index is_own
some_first s zero index is_own hs first =
    let f = first refl in
    let le = one_at_most (is_own || nat_eq index 0) in
    let own : is_own ≡ true = f.1 in
    let more : (if is_own then index else 0) ≡ index = rw own refl in
    omega (arith, le, more, f.0)
some_first s (suc k) index is_own hs first =
    omega (arith, one_at_most (is_own || nat_eq index 0))

-- what the reader of the memory has to know of the column that J names: it is below the bound of its lane,
-- and no column that takes its place has been made
pub named_within : (s pass slice index : ℕ) (is_own : Bool) (j r : ℕ) → 2 ≤ s → slice < 4 → index < s
    → (pass ≡ 0 → slice ≡ 0 → (2 ≤ index) × (is_own ≡ true))
    → r ≡ slice_index (reference_set s pass slice index is_own) (relative_place (length (reference_set s pass slice index is_own)) j)
    → (r < pass * (4 * s) + slice * s + (if is_own then index else 0)) × (pass * (4 * s) + slice * s + s ≤ r + 4 * s)
named_within s zero slice index is_own j r hs hl hi first e =
    let some : 0 < reference_set_len s zero slice index is_own = some_first s slice index is_own hs (first refl) in
    let at : r ≡ reference_set_start s zero slice + relative_place (reference_set_len s zero slice index is_own) j =
    named_is s zero slice index is_own j r hl some e in
    let lt : relative_place (reference_set_len s zero slice index is_own) j < reference_set_len s zero slice index is_own =
    relative_place-lt _ j some in
    let le : slice * s ≤ 3 * s = mul-le-mul_right s (omega arith) in
    (omega arith, omega arith)
named_within s (suc before) slice index is_own j r hs hl hi first e =
    let some : 0 < reference_set_len s (suc before) slice index is_own =
    omega (arith, one_at_most (is_own || nat_eq index 0)) in
    let at : r ≡ reference_set_start s (suc before) slice + relative_place (reference_set_len s (suc before) slice index is_own) j =
    named_is s (suc before) slice index is_own j r hl some e in
    let lt : relative_place (reference_set_len s (suc before) slice index is_own) j < reference_set_len s (suc before) slice index is_own =
    relative_place-lt _ j some in
    (omega arith, omega arith)

pub start_later : (s pass slice : ℕ) → 0 < pass → reference_set_start s pass slice % (4 * s) ≡ (slice + 1) * s % (4 * s)
start_later s zero slice h = absurd (omega arith)
start_later s (suc before) slice h = mul-add-mod_self_right before (4 * s) ((slice + 1) * s)

pub start_last : (s pass slice : ℕ) → 0 < pass → slice ≡ 3 → reference_set_start s pass slice % (4 * s) ≡ 0
start_last s pass slice h e =
    start_later s pass slice h ∙ rw e (mod_self (4 * s))

-- the number that J 1 names, by the set's length and first number
pub named_number : (s pass slice index : ℕ) (is_own : Bool) (j : ℕ) → slice < 4 → 0 < reference_set_len s pass slice index is_own
    → slice_index (reference_set s pass slice index is_own) (relative_place (length (reference_set s pass slice index is_own)) j)
    ≡ reference_set_start s pass slice + relative_place (reference_set_len s pass slice index is_own) j
named_number s pass slice index is_own j hl some = named_is s pass slice index is_own j _ hl some refl

-- no set that is used is empty
pub reference_set_some : (s pass slice index : ℕ) (is_own : Bool) → 2 ≤ s → (pass ≡ 0 → slice ≡ 0 → (2 ≤ index) × (is_own ≡ true))
    → 0 < reference_set_len s pass slice index is_own
reference_set_some s zero slice index is_own hs first = some_first s slice index is_own hs (first refl)
reference_set_some s (suc before) slice index is_own hs first = omega (arith, one_at_most (is_own || nat_eq index 0))

own_index-le : (index : ℕ) (is_own : Bool) → (if is_own then index else 0) ≤ index
own_index-le index true = omega arith
own_index-le index false = omega arith

-- the set is not longer than a lane
pub reference_set_short : (s pass slice index : ℕ) (is_own : Bool) → slice < 4 → index < s → reference_set_len s pass slice index is_own ≤ 4 * s
reference_set_short s zero slice index is_own hl hi =
    let le : slice * s ≤ 3 * s = mul-le-mul_right s (omega arith) in
    omega (arith, own_index-le index is_own)
reference_set_short s (suc before) slice index is_own hl hi = omega (arith, own_index-le index is_own)
