-- One flat buffer of blocks that is overwritten, against the blocks of the matrix B, which are not. Within a slice the
-- lanes may come in any order.
use Rattle.std.proofs.Common.{◌≡◌, ◌≢◌, ℕ, ◌+◌, ◌-◌, ◌*◌, ◌/◌, ◌%◌, ◌^◌, ◌<◌, ◌≤◌, inl, inr, Bool, true, false, ◌&&◌, List, [], length, set, sym, ap, ◌∙◌, arith, nat_eq}
use Rattle.std.specs.Prelude.{if◌then◌else◌}
use Rattle.std.proofs.lemmas.List.{get_or-set_same, get_or-set_other}
use Rattle.std.proofs.lemmas.Nat.{div-mul-add}
use Rattle.std.proofs.lemmas.Bool.Decides.{eqb_tells}
use Rattle.std.proofs.lemmas.Bool.{cases_lt}
use Rattle.std.proofs.Math.Nat.{mul-le-mul_right, mul-le-mul_left, mod-lt}
use Rattle.argon.specs.Argon2.{block_at, matrix_block}
use Rattle.argon.specs.Buffer.{HoldsNewestBlocks, IsInSlice, block_held}
use Rattle.argon.specs.Parameters.{Parameters, lane_len, segment_len}
use Rattle.argon.specs.Reference.{reference_lane}
use Rattle.argon.proofs.MatrixBlocks.{IsPlace, block_at_same, block_is_next, reads}

-- two numbers less than q apart have places of their own
apart : (q n m : ℕ) → m < n → n < m + q → m % q ≢ n % q
apart q n m lt near e =
    let a : ℕ = n / q in
    let b : ℕ = m / q in
    elim (cases_lt b a) [
      | inr le ↦ let h : q * a ≤ q * b = mul-le-mul_left q le in omega arith
      | inl gt ↦ let h : q * (b + 1) ≤ q * a = mul-le-mul_left q (omega arith) in omega arith
    ]

-- places of two lanes
pub lanes_apart : (q l m a b : ℕ) → a < q → b < q → l ≢ m → l * q + a ≢ m * q + b
lanes_apart q l m a b ha hb ne e =
    ne (sym (div-mul-add l q a ha) ∙ ap (λ (x : ℕ). x / q) e ∙ div-mul-add m q b hb)

-- the place of a lane is in the buffer
pub place-lt : (p q l a : ℕ) → l < p → a < q → l * q + a < p * q
place-lt p q l a hl ha = let h : (l + 1) * q ≤ p * q = mul-le-mul_right q (omega arith) in omega arith

lane_by : (b : Bool) (lane j p : ℕ) → lane < p → (if b then lane else j / 2 ^ 32 % p) < p
lane_by true lane j p h = h
lane_by false lane j p h = mod-lt (j / 2 ^ 32) (omega arith)

-- the lane that J names is one
pub reference_lane-lt : (c : Parameters) (pass lane slice j : ℕ) → lane < c.lanes → reference_lane c pass lane slice j < c.lanes
reference_lane-lt c pass lane slice j h = lane_by (nat_eq pass 0 && nat_eq slice 0) lane j c.lanes h

-- the block that a lane makes from what the buffer holds is that of the matrix
pub block_at_is_block : (c : Parameters) (h0 : List ℕ) (buf : List (List ℕ)) (next : ℕ → ℕ) (n lane pass slice index : ℕ)
    → HoldsNewestBlocks c h0 buf next → IsInSlice c pass slice next → IsPlace c n pass slice index → 2 ≤ segment_len c → 2 ≤ n
    → lane < c.lanes → next lane ≡ n
    → block_at c (block_held c buf) n pass lane slice index ≡ matrix_block c h0 n lane
block_at_is_block c h0 buf next n lane pass slice index newest within p hs hn hl at =
    block_at_same c (block_held c buf) (matrix_block c h0) n lane pass slice index
    (newest.holds lane (n - 1) hl (omega arith) (omega arith))
    (λ later.
    let whole : 1 * lane_len c ≤ pass * lane_len c = mul-le-mul_right (lane_len c) later in
    newest.holds lane (n - lane_len c) hl (omega (arith, p.number)) (omega (arith, p.number)))
    (λ j r l er el.
    let w = reads c n lane pass slice index j r l p hs hn er el in
    let known : l < c.lanes = rw el (reference_lane-lt c pass lane slice j hl) in
    elim (eqb_tells l lane) [
      | inl same ↦
          let here : next l ≡ n = rw same.1 at in
          newest.holds l r known (omega (arith, w.0)) (omega (arith, w.1))
      | inr ne ↦
          let below : r < n - index = w.2 ne.1 in
          let f = within.from l known in
          let t = within.to l known in
          newest.holds l r known (omega (arith, p.number)) (omega (arith, w.3, p.number))
    ])
    ∙ sym (block_is_next c h0 n lane pass slice index p hs hn hl)

-- a lane makes its next block: the buffer holds the newest blocks still
pub step_newest : (c : Parameters) (h0 : List ℕ) (buf : List (List ℕ)) (next after : ℕ → ℕ) (new : List ℕ) (n lane pass slice index : ℕ)
    → HoldsNewestBlocks c h0 buf next → IsInSlice c pass slice next → IsPlace c n pass slice index → 2 ≤ segment_len c → 2 ≤ n
    → lane < c.lanes → next lane ≡ n → length buf ≡ c.lanes * lane_len c
    → after lane ≡ n + 1 → ((l : ℕ) → l ≢ lane → after l ≡ next l)
    → new ≡ block_at c (block_held c buf) n pass lane slice index
    → HoldsNewestBlocks c h0 (set buf (lane * lane_len c + n % lane_len c) new) after
step_newest c h0 buf next after new n lane pass slice index newest within p hs hn hl at lb now_after rest_after e =
    let q : ℕ = lane_len c in
    let place : ℕ = lane * lane_len c + n % lane_len c in
    let inside : n % lane_len c < lane_len c = mod-lt n (omega arith) in
    let fits : place < length buf = rw lb (place-lt c.lanes q lane (n % q) hl inside) in
    record {
      holds = λ l m known below near.
          let there : m % lane_len c < lane_len c = mod-lt m (omega arith) in
          elim (eqb_tells l lane) [
            | inl same ↦
                let is_next : after l ≡ n + 1 = rw same.1 now_after in
                elim (eqb_tells m n) [
                  | inl now ↦
                      rw (same.1, now.1) (get_or-set_same buf place new [] fits ∙ e
                      ∙ block_at_is_block c h0 buf next n lane pass slice index newest within p hs hn hl at)
                  | inr before ↦
                      let lt : m < n = let ne = before.1 in omega arith in
                      let other : m % lane_len c ≢ n % lane_len c = apart q n m lt (omega arith) in
                      let ne : lane * lane_len c + m % lane_len c ≢ place = omega arith in
                      rw same.1 (get_or-set_other buf place (lane * lane_len c + m % lane_len c) new [] ne
                      ∙ newest.holds lane m hl (omega arith) (omega arith))
                ]
            | inr ne ↦
                let is_next : after l ≡ next l = rest_after l ne.1 in
                let other : l * lane_len c + m % lane_len c ≢ place = lanes_apart q l lane (m % q) (n % q) there inside ne.1 in
                get_or-set_other buf place (l * lane_len c + m % lane_len c) new [] other
                ∙ newest.holds l m known (omega arith) (omega arith)
          ];
    }

-- what is held depends on the numbers that come next alone
pub newest_same : (c : Parameters) (h0 : List ℕ) (buf : List (List ℕ)) (a b : ℕ → ℕ) → ((l : ℕ) → l < c.lanes → b l ≡ a l)
    → HoldsNewestBlocks c h0 buf a → HoldsNewestBlocks c h0 buf b
newest_same c h0 buf a b same newest = record {
  holds = λ l n known below near.
      let e : b l ≡ a l = same l known in
      newest.holds l n known (omega arith) (omega arith);
}
