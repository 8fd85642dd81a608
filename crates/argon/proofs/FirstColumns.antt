-- H 0 and the first two columns.
use Rattle.std.proofs.Common.{◌≡◌, ◌≢◌, ℕ, ◌+◌, ◌*◌, ◌%◌, ◌<◌, ◌≤◌, inl, inr, List, [], ◌++◌, length, get_or, set, sym, ap, subst, ◌∙◌, arith, length-append, length-set}
use Rattle.std.proofs.lemmas.List.{get_or-set_same, get_or-set_other, append_assoc, append-nil}
use Rattle.std.proofs.lemmas.Bool.Decides.{eqb_tells}
use Rattle.std.proofs.Math.Nat.{mod-eq_of_lt}
use Rattle.byteorder.specs.Endian.{little_bytes}
use Rattle.blake.specs.State.{Holds, IsHandedNext, hashed_message_len}
use Rattle.blake.specs.declared.hasher.Blake2b.{Blake2b}
use Rattle.argon.specs.Argon2.{block_from_h0, with_length}
use Rattle.argon.specs.Buffer.{HoldsNewestBlocks}
use Rattle.argon.specs.Parameters.{Parameters, lane_len, segment_len}
use Rattle.argon.proofs.Buffer.{lanes_apart}
use Rattle.argon.proofs.MatrixBlocks.{block_first}

-- a text with its length is four bytes longer
length-with_length : (text : List ℕ) → length (with_length text) ≡ 4 + length text
length-with_length text = length-append (little_bytes 4 (length text)) text

-- a text is handed to a hash after its length
pub handed_with_length : (text : List ℕ) (s t u : Blake2b) → IsHandedNext (little_bytes 4 (length text)) s t → IsHandedNext text t u
    → IsHandedNext (with_length text) s u
handed_with_length text s t u first rest =
    let four : hashed_message_len t ≡ hashed_message_len s + 4 = first.message_len in
    let sum : hashed_message_len t + length text ≡ hashed_message_len s + (4 + length text) = omega arith in
    record {
      answer_len = rest.answer_len ∙ first.answer_len;
      message_len = rest.message_len ∙ sum ∙ sym (ap (λ (k : ℕ). hashed_message_len s + k) (length-with_length text));
      message = λ n m held.
          subst (λ (l : List ℕ). Holds n u l) (append_assoc m (little_bytes 4 (length text)) text)
          (rest.message n (m ++ little_bytes 4 (length text)) (first.message n m held));
    }

-- how long the message is after four bytes, and after a text with its length
pub four_more : (bytes : List ℕ) (s t : Blake2b) → IsHandedNext bytes s t → length bytes ≡ 4 → hashed_message_len t ≡ hashed_message_len s + 4
four_more bytes s t handed four = handed.message_len ∙ ap (λ (k : ℕ). hashed_message_len s + k) four

pub text_more : (text : List ℕ) (s t : Blake2b) → IsHandedNext (with_length text) s t → hashed_message_len t ≡ hashed_message_len s + 4 + length text
text_more text s t handed =
    let sum : hashed_message_len s + (4 + length text) ≡ hashed_message_len s + 4 + length text = omega arith in
    handed.message_len ∙ ap (λ (k : ℕ). hashed_message_len s + k) (length-with_length text) ∙ sum

pub three_joined : (a b c : List ℕ) → a ++ (b ++ (c ++ [])) ≡ a ++ b ++ c
three_joined a b c = rw (append-nil c) (sym (append_assoc a b c))

-- the first two columns of one more lane
pub first_columns_more : (h0 : List ℕ) (buf : List (List ℕ)) (q lane : ℕ) (a b : List ℕ) → 2 ≤ q → lane * q + 1 < length buf
    → a ≡ block_from_h0 h0 0 lane → b ≡ block_from_h0 h0 1 lane
    → ((k n : ℕ) → k < lane → n < 2 → get_or buf (k * q + n) [] ≡ block_from_h0 h0 n k)
    → (k n : ℕ) → k < lane + 1 → n < 2 → get_or (set (set buf (lane * q) a) (lane * q + 1) b) (k * q + n) [] ≡ block_from_h0 h0 n k
first_columns_more h0 buf q lane a b hq fits ea eb done k n hk hn =
    let one : List (List ℕ) = set buf (lane * q) a in
    let len : length (set buf (lane * q) a) ≡ length buf = length-set {A = List ℕ} buf (lane * q) a in
    elim (eqb_tells k lane) [
      | inl same ↦ elim (eqb_tells n 0) [
        | inl first ↦
            let ne : lane * q + 0 ≢ lane * q + 1 = omega arith in
            let at : lane * q + 0 ≡ lane * q = omega arith in
            rw (same.1, first.1) (get_or-set_other one (lane * q + 1) (lane * q + 0) b [] ne
            ∙ ap (λ (i : ℕ). get_or (set buf (lane * q) a) i []) at ∙ get_or-set_same buf (lane * q) a [] (omega arith) ∙ ea)
        | inr later ↦
            let second : n ≡ 1 = let ne = later.1 in omega arith in
            rw (same.1, second) (get_or-set_same one (lane * q + 1) b [] (omega arith) ∙ eb)
      ]
      | inr ne ↦
          let apart0 : k * q + n ≢ lane * q + 0 = lanes_apart q k lane n 0 (omega arith) (omega arith) ne.1 in
          let apart1 : k * q + n ≢ lane * q + 1 = lanes_apart q k lane n 1 (omega arith) (omega arith) ne.1 in
          let apart : k * q + n ≢ lane * q = omega arith in
          let below : k < lane = let n = ne.1 in omega arith in
          get_or-set_other one (lane * q + 1) (k * q + n) b [] apart1
          ∙ get_or-set_other buf (lane * q) (k * q + n) a [] apart ∙ done k n below hn
    ]

-- with the first two columns of all lanes every place holds the newest
pub columns_newest : (c : Parameters) (h0 : List ℕ) (buf : List (List ℕ)) (q lanes : ℕ) → 2 ≤ segment_len c → q ≡ lane_len c → lanes ≡ c.lanes
    → ((k n : ℕ) → k < lanes → n < 2 → get_or buf (k * q + n) [] ≡ block_from_h0 h0 n k)
    → HoldsNewestBlocks c h0 buf (λ _. 2)
columns_newest c h0 buf q lanes hs eq el done = record {
  holds = λ l n known below near.
      let at : n % lane_len c ≡ n = mod-eq_of_lt (omega arith) in
      let from : get_or buf (l * lane_len c + n) [] ≡ block_from_h0 h0 n l = rw (← eq) (done l n (omega arith) below) in
      ap (λ (i : ℕ). get_or buf (l * lane_len c + i) []) at ∙ from ∙ sym (block_first c h0 n l below known);
}
