-- Bounds of the work over a sparse table.
use Rattle.std.proofs.Common.{◌≡◌, ℕ, zero, suc, ◌+◌, ◌-◌, ◌*◌, ◌/◌, ◌%◌, ◌^◌, ◌<◌, ◌≤◌, List, arith, refl, ap, ◌∙◌, mod-lt}
use Rattle.std.proofs.Math.Nat.{mod-one, mul-le-mul_left}
use Rattle.macs.specs.Pbkdf2.{pbkdf2}
use Rattle.romix.specs.Romix.{integerify, romix_row_after_turns}
use Rattle.romix.specs.Scrypt.{part_at, words_of}
use Rattle.romix.specs.Costs.{Parameters, cores, parts_bytes, table_bytes}
use Rattle.romix.specs.Faults.{limit_fault, sparse_limit_fault}
use Rattle.romix.specs.Sparse.{mixes, block_mix_count_of_parts, sparse_table_core_count, mix_count_from_kept_rows}
use Rattle.romix.specs.SparseCosts.{CostsAndKeep, cores_bound, sparse_table_bytes, whole}
use Rattle.romix.specs.declared.limits.Limits.{Limits}

step_low : (x s t : ℕ) → s ≡ t + 1 → x % s ≤ t
step_low x s t e = omega (arith, mod-lt x (let some : 0 < s = omega arith in some))

steps_low : (b : List ℕ) (n s t i : ℕ) → s ≡ t + 1 → mix_count_from_kept_rows b n s i ≤ i * t
unfolding mix_count_from_kept_rows
steps_low b n s t zero e = omega arith
steps_low b n s t (suc i) e =
    let k : suc i * t ≡ i * t + t = omega arith in
    omega (arith, steps_low b n s t i e, step_low (integerify (romix_row_after_turns b n i)) s t e)

steps_none : (b : List ℕ) (n i : ℕ) → mix_count_from_kept_rows b n 1 i ≡ 0
unfolding mix_count_from_kept_rows
steps_none b n zero = refl
steps_none b n (suc i) = rw (steps_none b n i, mod-one (integerify (romix_row_after_turns b n i))) refl

mixes_low : (b : List ℕ) (n s : ℕ) → 0 < s → mixes b n s ≤ n * (1 + s)
unfolding mixes
mixes_low b n s some =
    let t : ℕ = s - 1 in
    let e : s ≡ t + 1 = omega arith in
    rw e (omega (arith, steps_low b n (t + 1) t n refl))

pub mixes_whole : (b : List ℕ) (n : ℕ) → mixes b n 1 ≡ 2 * n
unfolding mixes
mixes_whole b n = omega (arith, steps_none b n n)

parts_low : (b : List ℕ) (s : CostsAndKeep) (k : ℕ) → 0 < s.keep → block_mix_count_of_parts b s k ≤ k * (2 ^ s.costs.log_n * (1 + s.keep))
unfolding block_mix_count_of_parts
parts_low b s zero some = omega arith
parts_low b s (suc k) some =
    let each : ℕ = 2 ^ s.costs.log_n * (1 + s.keep) in
    let more : suc k * each ≡ k * each + each = omega arith in
    omega (arith, more, parts_low b s k some, mixes_low (words_of (part_at b s.costs.r k) (32 * s.costs.r)) (2 ^ s.costs.log_n) s.keep some)

parts_whole : (b : List ℕ) (s : CostsAndKeep) (k : ℕ) → s.keep ≡ 1 → block_mix_count_of_parts b s k ≡ k * (2 * 2 ^ s.costs.log_n)
unfolding block_mix_count_of_parts
parts_whole b s zero one = omega arith
parts_whole b s (suc k) one =
    let row : List ℕ = words_of (part_at b s.costs.r k) (32 * s.costs.r) in
    let n : ℕ = 2 ^ s.costs.log_n in
    let more : suc k * (2 * n) ≡ k * (2 * n) + 2 * n = omega arith in
    let last : mixes row n s.keep ≡ 2 * n = ap (mixes row n) one ∙ mixes_whole row n in
    omega (arith, more, last, parts_whole b s k one)

-- they are at most 2 * r * p * N * (1 + S)
pub cores_are_bounded : (password salt : List ℕ) (s : CostsAndKeep) → 0 < s.keep → sparse_table_core_count password salt s ≤ cores_bound s
unfolding sparse_table_core_count
cores_are_bounded password salt s some =
    omega (arith, mul-le-mul_left (2 * s.costs.r) (parts_low (pbkdf2 password salt (parts_bytes s.costs)) s s.costs.p some))

-- with every row kept they are 4 * N * r * p
pub cores_of_whole_table : (password salt : List ℕ) (s : CostsAndKeep) → s.keep ≡ 1 → sparse_table_core_count password salt s ≡ cores s.costs
unfolding sparse_table_core_count
cores_of_whole_table password salt s one =
    rw (parts_whole (pbkdf2 password salt (parts_bytes s.costs)) s s.costs.p one) (omega arith)

-- ---- with every row kept

pub table_of_whole : (c : Parameters) → sparse_table_bytes (whole c) ≡ table_bytes c
table_of_whole c =
    let all : 2 ^ c.log_n / 1 ≡ 2 ^ c.log_n = omega arith in
    rw all (omega arith)

pub bound_of_whole : (c : Parameters) → cores_bound (whole c) ≡ cores c
bound_of_whole c = omega arith

pub fault_of_whole : (c : Parameters) (limits : Limits) → sparse_limit_fault (whole c) limits ≡ limit_fault c limits
fault_of_whole c limits = rw (table_of_whole c, bound_of_whole c) refl
