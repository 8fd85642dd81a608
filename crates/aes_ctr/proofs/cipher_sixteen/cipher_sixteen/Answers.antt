use Rattle.std.proofs.Common.{◌≡◌, ℕ, ◌+◌, ◌++◌, List, add-one, arith, drop, refl, take, take-append-drop, ◌∙◌}
use Rattle.aes_ctr.specs.Aes.{add_round_key, cipher, mix_columns, shift_rows, state_after, sub_bytes}
use Rattle.aes_ctr.specs.Planes.{IsAesBlock, plane, round_key}
use Rattle.aes_ctr.proofs.Blocks.{AreBytes-same, IsAesBlock-add_round_key, IsAesBlock-mix_columns, IsAesBlock-shift_rows, IsAesBlock-sub_bytes}
use Rattle.aes_ctr.proofs.Pairs.{IsBlockPair-append, IsBlockPair-parts}
use Rattle.aes_ctr.proofs.cipher_sixteen.cipher_sixteen.Goals as goal

-- a block after a round, and after the last
IsAesBlock-round : (words : List (List ℕ)) (round : ℕ) → IsAesBlock (round_key words round) → (x : List ℕ) → IsAesBlock x
    → IsAesBlock (add_round_key words round (mix_columns (shift_rows (sub_bytes x))))
IsAesBlock-round words round key x ok =
    IsAesBlock-add_round_key words round key (mix_columns (shift_rows (sub_bytes x)))
    (IsAesBlock-mix_columns (shift_rows (sub_bytes x)) (IsAesBlock-shift_rows (sub_bytes x) (IsAesBlock-sub_bytes x ok)))

IsAesBlock-last_round : (words : List (List ℕ)) → IsAesBlock (round_key words 14) → (x : List ℕ) → IsAesBlock x
    → IsAesBlock (add_round_key words 14 (shift_rows (sub_bytes x)))
IsAesBlock-last_round words key x ok =
    IsAesBlock-add_round_key words 14 key (shift_rows (sub_bytes x)) (IsAesBlock-shift_rows (sub_bytes x) (IsAesBlock-sub_bytes x ok))

-- one round more
state_after-next : (words : List (List ℕ)) (block : List ℕ) (n : ℕ)
    → state_after words block (n + 1) ≡ add_round_key words (n + 1) (mix_columns (shift_rows (sub_bytes (state_after words block n))))
unfolding state_after
state_after-next words block n = rw (add-one n) refl

pub rounds-init : goal.rounds-init
unfolding state_after
rounds-init c =
    λ words keys b small.
    let pair : List ℕ = plane c.args.pairs b in
    let parts = IsBlockPair-parts pair (c.transposed.ensures.bytes b small).0 in
    let key = keys 0 (omega arith) in (
      IsAesBlock-add_round_key words 0 key.0 (take 16 pair) parts.0,
      IsAesBlock-add_round_key words 0 key.0 (drop 16 pair) parts.1,
      c.add_planes-state.ensures.held words b (key.1 b small) (take 16 pair) (drop 16 pair) parts.0 parts.1
          (rw (take-append-drop 16 pair) (λ k h. c.transposed.ensures.transposed b k small h)),
    )

pub rounds-preserved : goal.rounds-preserved
rounds-preserved c =
    λ words keys b small.
    let before = c.rounds.invariant words keys b small in
    let n : ℕ = c.rounds.done in
    let first : List ℕ = state_after words (take 16 (plane c.args.pairs b)) n in
    let second : List ℕ = state_after words (drop 16 (plane c.args.pairs b)) n in
    let key = keys (n + 1) (omega arith) in
    rw (state_after-next words (take 16 (plane c.args.pairs b)) n, state_after-next words (drop 16 (plane c.args.pairs b)) n) (
      IsAesBlock-round words (n + 1) key.0 first before.0,
      IsAesBlock-round words (n + 1) key.0 second before.1,
      c.round-next.ensures.held words b small (key.1 b small) first second before.0 before.1 before.2,
    )

pub returns : goal.returns
unfolding cipher
returns c = record {
  cipher_texts =
      λ words keys b small.
      let all : c.rounds.done ≡ 13 = omega arith in
      let before = rw all at (c.rounds.invariant words keys b small) in
      let first : List ℕ = state_after words (take 16 (plane c.args.pairs b)) 13 in
      let second : List ℕ = state_after words (drop 16 (plane c.args.pairs b)) 13 in
      let key = keys 14 (omega arith) in
      let made = c.last_round.ensures.held words b small (key.1 b small) first second before.0 before.1 before.2 in
      AreBytes-same (plane c.transposed-2.result b) (add_round_key words 14 (shift_rows (sub_bytes first)) ++ add_round_key words 14 (shift_rows (sub_bytes second)))
      (c.transposed-2.ensures.bytes b small).1
      (IsBlockPair-append (add_round_key words 14 (shift_rows (sub_bytes first))) (add_round_key words 14 (shift_rows (sub_bytes second)))
      (IsAesBlock-last_round words key.0 first before.0) (IsAesBlock-last_round words key.0 second before.1))
      (λ k h. c.transposed-2.ensures.transposed k b h small ∙ made k h);
}
