-- How many block functions, that is, calls of G, a hash takes (RFC 9106, 3.2 and 3.4.1.2): by the
-- parameters alone. Address blocks count as 3.4.1.2 makes them, also where no block of the segment needs one.
use Rattle.std.specs.Prelude.{ℕ, ◌+◌, ◌-◌, ◌*◌, ◌/◌, ◌%◌, Bool, true, false, ◌&&◌, nat_eq, nat_lt, if◌then◌else◌}
use Rattle.argon.specs.Parameters.{Parameters, segment_len, block_count}
use Rattle.argon.specs.Reference.{is_independent}

-- how many address blocks a segment of so many columns needs: each has the words J of 128 columns (3.4.1.2)
abbrev pub address_block_count : ℕ → ℕ
address_block_count segment = (segment + 127) / 128

-- the index of a segment's first column that comes from other blocks: columns 0 and 1 of the first
-- pass come from H_0 (3.2, steps 3 and 4)
abbrev pub first_index : ℕ → ℕ → ℕ
first_index pass slice = if nat_eq pass 0 && nat_eq slice 0 then 2 else 0

-- the block functions of so many address blocks: two each, and none where J_1 and J_2 come from blocks (3.4.1.1,
-- 3.4.1.2)
abbrev pub address_work : Bool → ℕ → ℕ
address_work true count = 2 * count
address_work false count = 0

-- how many address blocks are made with the column of an index: one with each 128th column but the
-- first, whose address block is made with the segment (3.4.1.2)
abbrev pub address_blocks_made_at : ℕ → ℕ
address_blocks_made_at index = if nat_lt 0 index && nat_eq (index % 128) 0 then 1 else 0

-- the block functions of the column with an index: one for its block (3.2, steps 5 and 6), and those of the address
-- block that is made with it, if one is (3.4.1.2)
abbrev pub column_work : Parameters → ℕ → ℕ → ℕ → ℕ
column_work parameters pass slice index =
    1 + address_work (is_independent parameters pass slice) (address_blocks_made_at index)

-- how many blocks of a segment come from other blocks: all but those of columns 0 and 1 of the first pass (3.2, steps
-- 3 to 6)
abbrev pub computed_block_count : Parameters → ℕ → ℕ → ℕ
computed_block_count parameters pass slice = segment_len parameters - first_index pass slice

-- the block functions of a segment: one for each block that comes from other blocks (3.2, steps 5 and 6), and those
-- of its address blocks (3.4.1.2)
abbrev pub segment_work : Parameters → ℕ → ℕ → ℕ
segment_work parameters pass slice =
    computed_block_count parameters pass slice
    + address_work (is_independent parameters pass slice) (address_block_count (segment_len parameters))

-- the block functions of a slice: those of its segment in each lane (3.4)
abbrev pub slice_work : Parameters → ℕ → ℕ → ℕ
slice_work parameters pass slice = parameters.lanes * segment_work parameters pass slice

-- in how many segments J_1 and J_2 come from the position alone: in all of Argon2i (3.4.1.2), in none of Argon2d
-- (3.4.1.1), in those of the first two slices of the first pass of Argon2id (3.4.1.3)
abbrev pub independent_segment_count : Parameters → ℕ
independent_segment_count parameters =
    if nat_eq parameters.kind 1 then 4 * parameters.lanes * parameters.passes
    else if nat_eq parameters.kind 2 then 2 * parameters.lanes else 0

-- the block functions of a hash: t * m' - 2 * p for the blocks that come from other blocks (3.2, steps 5 and 6), and
-- 2 * ceil(segment / 128) for each segment where J_1 and J_2 come from the position alone (3.4.1.2)
abbrev pub work : Parameters → ℕ
work parameters =
    parameters.passes * block_count parameters - 2 * parameters.lanes
    + 2 * address_block_count (segment_len parameters) * independent_segment_count parameters
