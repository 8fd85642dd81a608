use Rattle.std.proofs.Common.{◌≡◌, ℕ, List, ◌+◌, ◌*◌, ◌/◌, ◌^◌, ◌<◌, ◌≤◌, ◌%◌, length, arith, refl, ap, mod-lt, pow_pos, ◌∙◌}
use Rattle.romix.specs.Inside.Diagonals.{row_in_standard_order}
use Rattle.romix.specs.Romix.{romix, romix_row_after_turns, row_of_v}
use Rattle.romix.specs.Sparse.{mixes, mix_count_from_kept_rows}
use Rattle.romix.specs.Inside.Table.{row_at}
use Rattle.romix.proofs.Rows.{half_is, table_row_more}
use Rattle.romix.proofs.Kept.{count_more, kept_below, kept_more, row_room, turn_more}
use Rattle.romix.proofs.romix.romix.Goals as goal

pub fill-init : goal.fill-init
unfolding row_of_v
fill-init c = record { row = c.turn_to_diagonals.ensures.words; rows = λ k h. absurd (omega arith); count = omega arith }

pub keep_row-requires-clause-room : goal.keep_row-requires-clause-room
keep_row-requires-clause-room c =
    let half = half_is c.args.log_n c.requires.log_n_low c.requires.log_n_high in
    row_room (length c.fill.row) (length c.args.row.now) (length c.fill.table) (2 ^ c.args.log_n) c.args.keep (2 * c.fill.i)
    (omega arith) (omega arith) c.requires.keep c.requires.divides (omega (arith, half))

pub keep_row-requires-in-fill-clause-room : goal.keep_row-requires-in-fill-clause-room
keep_row-requires-in-fill-clause-room c =
    let half = half_is c.args.log_n c.requires.log_n_low c.requires.log_n_high in
    row_room (length c.block_mix_by_diagonals.new.out) (length c.args.row.now) (length c.keep_row.new.table) (2 ^ c.args.log_n) c.args.keep (2 * c.fill.i + 1)
    (omega arith) (omega arith) c.requires.keep c.requires.divides (omega (arith, half))

pub fill-preserved : goal.fill-preserved
fill-preserved c =
    let b : List ℕ = c.args.row.now in
    let len : ℕ = length c.args.row.now in
    let i : ℕ = c.fill.i in
    let s : ℕ = c.args.keep in
    let one : row_in_standard_order c.block_mix_by_diagonals.new.out ≡ row_of_v b (2 * i + 1) = table_row_more b _ _ (2 * i) (2 * i + 1) c.fill.invariant.row c.block_mix_by_diagonals.ensures.words refl in
    let rows : (k : ℕ) → s * k < 2 * i + 1 → row_in_standard_order (row_at c.keep_row.new.table len k) ≡ row_of_v b (s * k) =
    kept_more c.fill.table c.keep_row.new.table b c.fill.row len (length c.fill.row) s (2 * i) (2 * i + 1) (omega arith) c.requires.keep refl
    c.fill.invariant.row c.keep_row.ensures.row.kept c.keep_row.ensures.row.below c.fill.invariant.rows in
    record {
      row = table_row_more b _ _ (2 * i + 1) (2 * (i + 1)) one c.block_mix_by_diagonals-in-fill.ensures.words (omega arith);
      rows = kept_more c.keep_row.new.table c.keep_row-in-fill.new.table b c.block_mix_by_diagonals.new.out len (length c.block_mix_by_diagonals.new.out) s (2 * i + 1) (2 * (i + 1)) (omega arith)
          c.requires.keep (omega arith) one c.keep_row-in-fill.ensures.row.kept c.keep_row-in-fill.ensures.row.below rows;
      count = omega (arith, c.block_mix_by_diagonals.ensures.count, c.block_mix_by_diagonals-in-fill.ensures.count);
    }

pub turns-init : goal.turns-init
unfolding romix_row_after_turns mix_count_from_kept_rows
turns-init c =
    let half = half_is c.args.log_n c.requires.log_n_low c.requires.log_n_high in
    let all : 2 * c.fill.i ≡ 2 ^ c.args.log_n = omega (arith, half) in
    record {
      row = rw all at c.fill.invariant.row;
      count = omega (arith, ap (λ (n : ℕ). n * (length c.args.row.now / 16)) all);
    }

pub xor_table_row-requires-clause-room : goal.xor_table_row-requires-clause-room
xor_table_row-requires-clause-room c =
    let low : c.integerify-j.result < 2 ^ c.args.log_n = rw c.integerify-j.ensures.number (mod-lt _ (pow_pos c.args.log_n)) in
    row_room (length c.turns.row) (length c.args.row.now) (length c.fill.table) (2 ^ c.args.log_n) c.args.keep c.integerify-j.result
    (omega arith) (omega arith) c.requires.keep c.requires.divides low

pub xor_table_row-requires-in-turns-clause-room : goal.xor_table_row-requires-in-turns-clause-room
xor_table_row-requires-in-turns-clause-room c =
    let low : c.integerify-j-in-turns.result < 2 ^ c.args.log_n = rw c.integerify-j-in-turns.ensures.number (mod-lt _ (pow_pos c.args.log_n)) in
    row_room (length c.block_mix_by_diagonals-in-turns.new.out) (length c.args.row.now) (length c.fill.table) (2 ^ c.args.log_n) c.args.keep c.integerify-j-in-turns.result
    (omega arith) (omega arith) c.requires.keep c.requires.divides low

pub turns-preserved : goal.turns-preserved
turns-preserved c =
    let b : List ℕ = c.args.row.now in
    let len : ℕ = length c.args.row.now in
    let n : ℕ = 2 ^ c.args.log_n in
    let s : ℕ = c.args.keep in
    let i : ℕ = c.turns.turn in
    let j : ℕ = c.integerify-j.result in
    let k : ℕ = c.integerify-j-in-turns.result in
    let half = half_is c.args.log_n c.requires.log_n_low c.requires.log_n_high in
    let all : n ≤ 2 * c.fill.i = omega (arith, half) in
    let low : j < n = rw c.integerify-j.ensures.number (mod-lt _ (pow_pos c.args.log_n)) in
    let low-2 : k < n = rw c.integerify-j-in-turns.ensures.number (mod-lt _ (pow_pos c.args.log_n)) in
    let from = kept_below c.fill.table b len (length c.turns.row) s j (2 * c.fill.i) (omega arith) (omega arith) c.fill.invariant.rows in
    let from-2 = kept_below c.fill.table b len (length c.block_mix_by_diagonals-in-turns.new.out) s k (2 * c.fill.i) (omega arith) (omega arith) c.fill.invariant.rows in
    let one = turn_more b _ _ _ _ n s (2 * i) j (2 * i + 1) c.requires.keep c.requires.divides
    c.turns.invariant.row c.integerify-j.ensures.number from c.xor_table_row.ensures.words c.block_mix_by_diagonals-in-turns.ensures.words refl in
    let two = turn_more b _ _ _ _ n s (2 * i + 1) k (2 * (i + 1)) c.requires.keep c.requires.divides
    one.0 c.integerify-j-in-turns.ensures.number from-2 c.xor_table_row-in-turns.ensures.words c.block_mix_by_diagonals-in-turns-2.ensures.words (omega arith) in
    let counted = count_more _ c.args.ticks.now _ _ len (length c.turns.row) (length c.xor_table_row.new.row) n (2 * i) _ _ (2 * i + 1) (j % s)
    c.turns.invariant.count (omega arith) (omega arith) c.xor_table_row.ensures.count c.block_mix_by_diagonals-in-turns.ensures.count one.1 refl in
    record {
      row = two.0;
      count = count_more _ c.args.ticks.now _ _ len (length c.block_mix_by_diagonals-in-turns.new.out) (length c.xor_table_row-in-turns.new.row) n (2 * i + 1) _ _ (2 * (i + 1)) (k % s)
          counted (omega arith) (omega arith) c.xor_table_row-in-turns.ensures.count c.block_mix_by_diagonals-in-turns-2.ensures.count two.1 (omega arith);
    }

pub returns-clause-words : goal.returns-clause-words
unfolding romix
returns-clause-words c =
    let half = half_is c.args.log_n c.requires.log_n_low c.requires.log_n_high in
    let all : 2 * c.turns.turn ≡ 2 ^ c.args.log_n = omega (arith, half) in
    c.turn_to_rows.ensures.words ∙ rw all at c.turns.invariant.row

pub returns-clause-count : goal.returns-clause-count
unfolding mixes
returns-clause-count c =
    let half = half_is c.args.log_n c.requires.log_n_low c.requires.log_n_high in
    let all : 2 * c.turns.turn ≡ 2 ^ c.args.log_n = omega (arith, half) in
    let counted = rw all at c.turns.invariant.count in
    omega (arith, counted)
