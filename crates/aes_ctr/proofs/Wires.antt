-- The circuit of the S-box: what a plane carries, and the bits of one byte.
use Rattle.std.proofs.Common.{◌≡◌, ℕ, zero, suc, ◌+◌, ◌-◌, ◌<◌, List, [], ◌∷◌, ◌++◌, ap, arith, bit_and, bit_xor, get_or, length, map, refl, replicate, slice_index, slice_index_or, sym, ◌∙◌, w8, Fits}
use lib.Lanes.{zip2}
use Rattle.std.specs.Int.{bit_at}
use Rattle.std.specs.List.{range_with_len}
use Rattle.std.proofs.lemmas.List.{map-append}
use Rattle.std.proofs.lemmas.List.FromFn.{get_or-map-range_with_len}
use Rattle.std.proofs.lemmas.Nat.Bits.{bit_at_ones}
use Rattle.std.proofs.lemmas.Simd.{Each1-weaker, map-map, splat_is_map, zip2_of_maps}
use Rattle.aes_ctr.specs.Aes.{sub_byte, sub_bytes}
use Rattle.aes_ctr.specs.Inside.Circuit.{s_box_input_sums, inverse_of_norm, norm, output_wires, products}
use Rattle.aes_ctr.specs.Planes.{IsAesBlock, BitPlanesHoldBytes, bits, plane}
use Rattle.aes_ctr.specs.Inside.PlaneSteps.{IsBlockPair}
use Rattle.aes_ctr.proofs.Held.{IsBitwise, below_eight, bit_at-bit_and, bit_at-bit_xor, bits-zip2}
use Rattle.aes_ctr.proofs.Pairs.{IsBlockPair-append}
use Rattle.aes_ctr.proofs.SBox.{entries, sub_byte-entries}
use Rattle.aes_ctr.proofs.Sixteen.{map-agreeing, map-sub_byte}

-- bit b of each lane of a plane, as a function of the bytes of a block
record Wire (b : ℕ) (block : List ℕ) : Type 0 where
  lanes : List ℕ
  of : ℕ → ℕ
  same : bits b lanes ≡ map of block

abbrev gate : {b : ℕ} {block : List ℕ} (f : ℕ → ℕ → ℕ) → IsBitwise f → Wire b block → Wire b block → Wire b block
gate {b} {block} f e v w = record {
  lanes = zip2 f v.lanes w.lanes;
  of = λ a. f (v.of a) (w.of a);
  same = bits-zip2 f e b v.lanes w.lanes ∙ zip2_of_maps f v.of w.of block v.same w.same;
}

abbrev xor_gate : {b : ℕ} {block : List ℕ} → Wire b block → Wire b block → Wire b block
xor_gate = gate bit_xor bit_at-bit_xor

abbrev and_gate : {b : ℕ} {block : List ℕ} → Wire b block → Wire b block → Wire b block
and_gate = gate bit_and bit_at-bit_and

abbrev one_wire : (b : ℕ) (block : List ℕ) → b < 8 → length block ≡ 32 → Wire b block
one_wire b block h long = record {
  lanes = replicate 32 255;
  of = λ _. 1;
  same = rw (bit_at_ones 8 b h) (splat_is_map block 32 1 long);
}

-- the first n of these planes are functions of the bytes
abbrev pub AreWires : (b : ℕ) (block : List ℕ) (n : ℕ) → (ℕ → List ℕ) → (ℕ → ℕ → ℕ) → Type 0
AreWires b block n lanes of = (k : ℕ) → k < n → bits b (lanes k) ≡ map (of k) block

abbrev wires : (b : ℕ) (block : List ℕ) (n : ℕ) (lanes : ℕ → List ℕ) (of : ℕ → ℕ → ℕ) → AreWires b block n lanes of → List (Wire b block)
wires b block zero lanes of same = []
wires b block (suc n) lanes of same =
    record { lanes = lanes 0; of = of 0; same = same 0 (omega arith) }
    ∷ wires b block n (λ k. lanes (k + 1)) (λ k. of (k + 1)) (λ k h. same (k + 1) (omega arith))

all_wires : (b : ℕ) (block : List ℕ) (made : List (Wire b block)) (k : ℕ) → k < length made
    → bits b (plane (map (λ w. w.lanes) made) k) ≡ map (λ a. slice_index (map (λ w. w.of a) made) k) block
all_wires b block [] k h = absurd (omega arith)
all_wires b block (w ∷ made) zero h = w.same
all_wires b block (w ∷ made) (suc k) h = all_wires b block made k (omega arith)

-- ---- the parts of the circuit

-- any wire, where a list of wires ends
abbrev nth : {A : Type 0} → A → List A → ℕ → A
nth end made k = slice_index_or made k end

pub s_box_input_sums-wires : (b : ℕ) (block : List ℕ) → b < 8 → length block ≡ 32 → (lanes : ℕ → List ℕ) (of : ℕ → ℕ → ℕ) → AreWires b block 8 lanes of
    → AreWires b block 22 (plane (s_box_input_sums (zip2 bit_xor) lanes)) (λ k a. slice_index (s_box_input_sums bit_xor (λ j. of j a)) k)
unfolding s_box_input_sums
s_box_input_sums-wires b block small long lanes of same =
    all_wires b block (s_box_input_sums xor_gate (nth (one_wire b block small long) (wires b block 8 lanes of same)))

pub norm-wires : (b : ℕ) (block : List ℕ) → b < 8 → length block ≡ 32 → (lanes : ℕ → List ℕ) (of : ℕ → ℕ → ℕ) → AreWires b block 22 lanes of
    → AreWires b block 4 (plane (norm (zip2 bit_xor) (zip2 bit_and) lanes)) (λ k a. slice_index (norm bit_xor bit_and (λ j. of j a)) k)
unfolding norm
norm-wires b block small long lanes of same =
    all_wires b block (norm xor_gate and_gate (nth (one_wire b block small long) (wires b block 22 lanes of same)))

pub inverse_of_norm-wires : (b : ℕ) (block : List ℕ) → b < 8 → length block ≡ 32 → (lanes : ℕ → List ℕ) (of : ℕ → ℕ → ℕ) → AreWires b block 4 lanes of
    → AreWires b block 4 (plane (inverse_of_norm (zip2 bit_xor) (zip2 bit_and) lanes)) (λ k a. slice_index (inverse_of_norm bit_xor bit_and (λ j. of j a)) k)
unfolding inverse_of_norm
inverse_of_norm-wires b block small long lanes of same =
    all_wires b block (inverse_of_norm xor_gate and_gate (nth (one_wire b block small long) (wires b block 4 lanes of same)))

pub products-wires : (b : ℕ) (block : List ℕ) → b < 8 → length block ≡ 32 → (sums inverses : ℕ → List ℕ) (of to : ℕ → ℕ → ℕ)
    → AreWires b block 22 sums of → AreWires b block 4 inverses to
    → AreWires b block 18 (plane (products (zip2 bit_xor) (zip2 bit_and) sums inverses)) (λ k a. slice_index (products bit_xor bit_and (λ j. of j a) (λ j. to j a)) k)
unfolding products
products-wires b block small long sums inverses of to same also =
    all_wires b block (products xor_gate and_gate
    (nth (one_wire b block small long) (wires b block 22 sums of same)) (nth (one_wire b block small long) (wires b block 4 inverses to also)))

pub output_wires-wires : (b : ℕ) (block : List ℕ) → b < 8 → length block ≡ 32 → (lanes : ℕ → List ℕ) (of : ℕ → ℕ → ℕ) → AreWires b block 18 lanes of
    → AreWires b block 8 (plane (output_wires (zip2 bit_xor) (replicate 32 255) lanes)) (λ k a. slice_index (output_wires bit_xor 1 (λ j. of j a)) k)
unfolding output_wires
output_wires-wires b block small long lanes of same =
    all_wires b block (output_wires xor_gate (one_wire b block small long) (nth (one_wire b block small long) (wires b block 18 lanes of same)))

-- ---- the circuit on bits

abbrev pub sums_of : ℕ → List ℕ
sums_of a = s_box_input_sums bit_xor (λ j. bit_at a (7 - j))

abbrev pub inverse_of : List ℕ → List ℕ
inverse_of sums = inverse_of_norm bit_xor bit_and (slice_index (norm bit_xor bit_and (slice_index sums)))

abbrev pub outputs_of : List ℕ → List ℕ
outputs_of sums = output_wires bit_xor 1 (slice_index (products bit_xor bit_and (slice_index sums) (slice_index (inverse_of sums))))

-- the bits of a byte, the lowest first
abbrev byte_bits : ℕ → List ℕ
byte_bits a = bit_at a 0 ∷ bit_at a 1 ∷ bit_at a 2 ∷ bit_at a 3 ∷ bit_at a 4 ∷ bit_at a 5 ∷ bit_at a 6 ∷ bit_at a 7 ∷ []

outputs_of-entries : map (λ a. outputs_of (sums_of a)) (range_with_len 0 256) ≡ map byte_bits entries
unfolding s_box_input_sums norm inverse_of_norm products output_wires
outputs_of-entries = refl

outputs_of_all : map (λ a. outputs_of (sums_of a)) (range_with_len 0 256) ≡ map (λ a. byte_bits (sub_byte a)) (range_with_len 0 256)
outputs_of_all =
    outputs_of-entries ∙ ap (map byte_bits) (sym sub_byte-entries) ∙ map-map byte_bits sub_byte (range_with_len 0 256)

outputs_of-byte : (a : ℕ) → a < 256 → outputs_of (sums_of a) ≡ byte_bits (sub_byte a)
outputs_of-byte a h =
    sym (get_or-map-range_with_len (λ a. outputs_of (sums_of a)) 0 256 a a [] h (omega arith)) ∙ ap (λ all. get_or all a []) outputs_of_all
    ∙ get_or-map-range_with_len (λ a. byte_bits (sub_byte a)) 0 256 a a [] h (omega arith)

map-byte_bits : (block : List ℕ) (k : ℕ) → k < 8 → map (λ a. slice_index (byte_bits (sub_byte a)) k) block ≡ bits k (map sub_byte block)
map-byte_bits block =
    let same : (k : ℕ) → map (λ a. bit_at (sub_byte a) k) block ≡ bits k (map sub_byte block) = λ k. sym (map-map (λ a. bit_at a k) sub_byte block) in
    below_eight (λ k. map (λ a. slice_index (byte_bits (sub_byte a)) k) block ≡ bits k (map sub_byte block))
    (same 0) (same 1) (same 2) (same 3) (same 4) (same 5) (same 6) (same 7)

-- the whole circuit
pub BitPlanesHoldBytes-sub_bytes : (b : ℕ) (first second : List ℕ) → b < 8 → IsAesBlock first → IsAesBlock second → (planes sums norms inverses terms made : List (List ℕ))
    → sums ≡ s_box_input_sums (zip2 bit_xor) (λ wire. plane planes (7 - wire))
    → norms ≡ norm (zip2 bit_xor) (zip2 bit_and) (plane sums)
    → inverses ≡ inverse_of_norm (zip2 bit_xor) (zip2 bit_and) (plane norms)
    → terms ≡ products (zip2 bit_xor) (zip2 bit_and) (plane sums) (plane inverses)
    → made ≡ output_wires (zip2 bit_xor) (replicate 32 255) (plane terms)
    → BitPlanesHoldBytes b planes (first ++ second) → BitPlanesHoldBytes b made (sub_bytes first ++ sub_bytes second)
BitPlanesHoldBytes-sub_bytes b first second small ok also planes sums norms inverses terms made s n i t m held k h =
    let block : List ℕ = first ++ second in
    let pair : IsBlockPair block = IsBlockPair-append first second ok also in
    let long : length block ≡ 32 = pair.0 in
    let input : ℕ → ℕ → ℕ = λ wire a. bit_at a (7 - wire) in
    let f : ℕ → ℕ → ℕ = λ k a. slice_index (sums_of a) k in
    let g : ℕ → ℕ → ℕ = λ k a. slice_index (norm bit_xor bit_and (slice_index (sums_of a))) k in
    let v : ℕ → ℕ → ℕ = λ k a. slice_index (inverse_of (sums_of a)) k in
    let p : ℕ → ℕ → ℕ = λ k a. slice_index (products bit_xor bit_and (slice_index (sums_of a)) (slice_index (inverse_of (sums_of a)))) k in
    let sums_wires : AreWires b block 22 (plane sums) f = rw s (s_box_input_sums-wires b block small long (λ wire. plane planes (7 - wire)) input (λ k h. held (7 - k) (omega arith))) in
    let norm_wires : AreWires b block 4 (plane norms) g = rw n (norm-wires b block small long (plane sums) f sums_wires) in
    let inverse_wires : AreWires b block 4 (plane inverses) v = rw i (inverse_of_norm-wires b block small long (plane norms) g norm_wires) in
    let product_wires : AreWires b block 18 (plane terms) p = rw t (products-wires b block small long (plane sums) (plane inverses) f v sums_wires inverse_wires) in
    let made_wires : AreWires b block 8 (plane made) (λ k a. slice_index (outputs_of (sums_of a)) k) = rw m (output_wires-wires b block small long (plane terms) p product_wires) in
    made_wires k h
    ∙ map-agreeing (λ a. slice_index (outputs_of (sums_of a)) k) (λ a. slice_index (byte_bits (sub_byte a)) k)
    (λ a h. ap (λ l. slice_index l k) (outputs_of-byte a h)) block (Each1-weaker (λ a. a < 256) (Fits w8) (λ a h. record { fits = h }) block pair.1)
    ∙ map-byte_bits block k h
    ∙ ap (bits k) (map-append sub_byte first second ∙ rw (map-sub_byte first ok.0, map-sub_byte second also.0) refl)
