-- Bytes that pass the tests of a header are the header of what they say.
use Rattle.std.proofs.Common.{◌≡◌, ℕ, zero, suc, ◌+◌, ◌<◌, ◌≤◌, List, [], ◌∷◌, ◌++◌, length, take, drop, get_or, slice_index, codes, Bool, not, true, arith, refl, ap, ap₂, sym, ◌∙◌, length-take, length-drop}
use Rattle.std.specs.Prelude.{◌==◌, Option, Some, bytes_eq}
use Rattle.std.specs.Int.{w32, from_be_bytes, to_be_bytes}
use Rattle.std.specs.Cmp.Lexicographic.{bytes_decides}
use Rattle.std.proofs.lemmas.List.{get_or-take, take-append-drop, take_all, take_more, take-take}
use Rattle.std.proofs.lemmas.Nat.{be_bytes_4}
use Rattle.romix.specs.FirstOf.{first_of}
use Rattle.encfile.specs.Header.{bytes_at, checksum, first_48_header_bytes, costs_of, has_magic, has_right_checksum, header, salt_of}
use Rattle.romix.specs.Costs.{Parameters}
use Rattle.encfile.specs.HeaderFaults.{are_out_of_range, header_fault}
use Rattle.encfile.specs.declared.fault.HeaderFault.{HeaderFault}
use Rattle.encfile.specs.declared.fault.HeaderFault.TheVariants.{Magic, Version, Checksum, CostsOutOfRange}
use Rattle.encfile.proofs.Pieces.{both_parts, bytes_at-take}

-- ---- bytes are below 256

abbrev AreBytes : List ℕ → Type 0
AreBytes bytes = (i : ℕ) → get_or bytes i 0 < 256

AreBytes-drop : (m : ℕ) (bytes : List ℕ) → AreBytes bytes → AreBytes (drop m bytes)
AreBytes-drop zero bytes h = h
AreBytes-drop (suc m) [] h = h
AreBytes-drop (suc m) (x ∷ bytes) h = AreBytes-drop m bytes (λ i. h (suc i))

AreBytes-take : (n : ℕ) (bytes : List ℕ) → AreBytes bytes → AreBytes (take n bytes)
AreBytes-take zero bytes h i = omega arith
AreBytes-take (suc n) [] h i = h i
AreBytes-take (suc n) (x ∷ bytes) h zero = h zero
AreBytes-take (suc n) (x ∷ bytes) h (suc i) = AreBytes-take n bytes (λ j. h (suc j)) i

-- four of them, read as a number and written
four_bytes : (bytes : List ℕ) (i : ℕ) → i + 4 ≤ length bytes → AreBytes bytes → to_be_bytes w32 (from_be_bytes w32 (bytes_at bytes i 4)) ≡ bytes_at bytes i 4
four_bytes bytes i within small =
    be_bytes_4 (bytes_at bytes i 4) _ (omega (arith, length-take 4 (drop i bytes), length-drop i bytes)) (AreBytes-take 4 (drop i bytes) (AreBytes-drop i bytes small)) refl

-- ---- the header

assembled : (log_n r p : ℕ) (first second salt : List ℕ) → to_be_bytes w32 r ≡ first → to_be_bytes w32 p ≡ second
    → codes "scrypt" ++ (0 ∷ log_n ∷ []) ++ first ++ second ++ salt ≡ first_48_header_bytes (record { log_n = log_n; r = r; p = p }) salt
assembled log_n r p first second salt h g = ap₂ (λ x y. codes "scrypt" ++ (0 ∷ log_n ∷ []) ++ x ++ y ++ salt) (sym h) (sym g)

take_48 : (bytes : List ℕ) → length bytes ≡ 64 → AreBytes bytes → take 6 bytes ≡ codes "scrypt" → slice_index bytes 6 ≡ 0
    → take 48 bytes ≡ first_48_header_bytes (costs_of bytes) (salt_of bytes)
take_48 bytes long small magic version =
    let seven : take 7 bytes ≡ take 6 bytes ++ slice_index bytes 6 ∷ [] = take_more bytes 6 0 (omega arith) in
    let eight : take 8 bytes ≡ take 7 bytes ++ slice_index bytes 7 ∷ [] = take_more bytes 7 0 (omega arith) in
    let r : take 12 bytes ≡ take 8 bytes ++ bytes_at bytes 8 4 = sym (both_parts 8 4 bytes) in
    let p : take 16 bytes ≡ take 12 bytes ++ bytes_at bytes 12 4 = sym (both_parts 12 4 bytes) in
    let all : take 48 bytes ≡ take 16 bytes ++ bytes_at bytes 16 32 = sym (both_parts 16 32 bytes) in
    rw (all, p, r, eight, seven, magic, version)
    (assembled (slice_index bytes 7) _ _ (bytes_at bytes 8 4) (bytes_at bytes 12 4) (bytes_at bytes 16 32)
    (four_bytes bytes 8 (omega arith) small) (four_bytes bytes 12 (omega arith) small))

-- 64 bytes that pass the first three tests are the header of what they say
pub header_is : (bytes : List ℕ) → length bytes ≡ 64 → AreBytes bytes → has_magic bytes ≡ true → slice_index bytes 6 ≡ 0
    → has_right_checksum bytes ≡ true → bytes ≡ header (costs_of bytes) (salt_of bytes)
unfolding header
header_is bytes long small magic version sum =
    let first = take_48 bytes long small ((bytes_decides _ _).0 magic) version in
    let rest : take 16 (drop 48 bytes) ≡ drop 48 bytes = take_all 16 (drop 48 bytes) (omega (arith, length-drop 48 bytes)) in
    let code : drop 48 bytes ≡ checksum (take 48 bytes) = sym rest ∙ (bytes_decides _ _).0 sum in
    sym (take-append-drop 48 bytes) ∙ ap (λ t. take 48 bytes ++ t) code ∙ ap (λ t. t ++ checksum t) first

-- the fourth test alone fails
pub fourth_fault : (b0 b1 b2 b3 : Bool) (r0 r1 r2 r3 : HeaderFault) → b0 ≡ true → b1 ≡ true → b2 ≡ true → b3 ≡ true
    → first_of ((not b0, r0) ∷ (not b1, r1) ∷ (not b2, r2) ∷ (b3, r3) ∷ []) ≡ Some r3
fourth_fault b0 b1 b2 b3 r0 r1 r2 r3 h0 h1 h2 h3 = rw (h0, h1, h2, h3) refl

-- ---- a beginning of a file says what the file says

abbrev parameters_of : ℕ → ℕ → ℕ → Parameters
parameters_of log_n r p = record { log_n = log_n; r = r; p = p }

pub costs_of-take : (n : ℕ) (file : List ℕ) → 16 ≤ n → costs_of (take n file) ≡ costs_of file
costs_of-take n file h =
    ap (λ k. parameters_of k (from_be_bytes w32 (bytes_at (take n file) 8 4)) (from_be_bytes w32 (bytes_at (take n file) 12 4))) (get_or-take n file 7 0 (omega arith))
    ∙ ap₂ (λ (a b : List ℕ). parameters_of (slice_index file 7) (from_be_bytes w32 a) (from_be_bytes w32 b))
    (bytes_at-take n 8 4 file (omega arith)) (bytes_at-take n 12 4 file (omega arith))

-- the first of the four faults, by what the tests find
abbrev fault_by : Bool → Bool → Bool → Bool → Option HeaderFault
fault_by magic version sum out =
    first_of ((not magic, Magic) ∷ (not version, Version) ∷ (not sum, Checksum) ∷ (out, CostsOutOfRange) ∷ [])

same_fault : (a0 a1 a2 a3 b0 b1 b2 b3 : Bool) → a0 ≡ b0 → a1 ≡ b1 → a2 ≡ b2 → a3 ≡ b3 → fault_by a0 a1 a2 a3 ≡ fault_by b0 b1 b2 b3
same_fault a0 a1 a2 a3 b0 b1 b2 b3 h0 h1 h2 h3 = rw (h0, h1, h2, h3) refl

pub header_fault-take : (n : ℕ) (file : List ℕ) → 64 ≤ n → header_fault (take n file) ≡ header_fault file
header_fault-take n file h =
    same_fault _ _ _ _ _ _ _ _ (ap (λ l. bytes_eq l (codes "scrypt")) (take-take 6 n file (omega arith)))
    (ap (λ k. k == 0) (get_or-take n file 6 0 (omega arith)))
    (ap₂ (λ (sum front : List ℕ). bytes_eq sum (checksum front)) (bytes_at-take n 48 16 file (omega arith)) (take-take 48 n file (omega arith)))
    (ap are_out_of_range (costs_of-take n file (omega arith)))
