-- The reference set W as one run of numbers, which is how it is found without a list (RFC 9106,
-- 3.4.2).
use Rattle.std.specs.Prelude.{◌≡◌, ℕ, zero, suc, ◌+◌, ◌-◌, ◌*◌, ◌^◌, ◌<◌, ◌≤◌, Bool, true, ◌||◌, nat_eq, if◌then◌else◌}

-- the number of the first column that stands in a lane
abbrev pub reference_set_start : ℕ → ℕ → ℕ → ℕ
reference_set_start segment zero slice = 0
reference_set_start segment (suc before) slice = before * (4 * segment) + (slice + 1) * segment

-- how many columns stand: those of the finished segments, and so many of this one
abbrev pub candidate_count : ℕ → ℕ → ℕ → ℕ → ℕ
candidate_count segment zero slice more = slice * segment + more
candidate_count segment (suc before) slice more = 3 * segment + more

-- a lane of four segments of this length has fewer than 2^32 columns
abbrev pub LaneLengthFitsU32 : ℕ → Type 0
LaneLengthFitsU32 segment = 4 * segment < 2 ^ 32

-- in slice 0 of pass 0 the first two columns come from H_0, and only columns of the own lane are read
abbrev pub IsAfterFirstTwo : ℕ → ℕ → ℕ → Bool → Type 0
IsAfterFirstTwo pass slice index is_own = pass ≡ 0 → slice ≡ 0 → (2 ≤ index) × (is_own ≡ true)

-- |W|
abbrev pub reference_set_len : ℕ → ℕ → ℕ → ℕ → Bool → ℕ
reference_set_len segment pass slice index is_own =
    candidate_count segment pass slice (if is_own then index else 0) - (if is_own || nat_eq index 0 then 1 else 0)
