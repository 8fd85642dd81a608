-- Argon2d, Argon2i and Argon2id, version 0x13 (RFC 9106, 3.2), as functions on lists of numbers. Version 0x10, which
-- is older than the RFC, differs in two places: the number v in H_0, and later passes overwrite without a xor.
--
-- The memory is not overwritten here, and lanes have no order: what is made is a list of columns by their numbers, in
-- which column c of pass r has the number r * q + c, and each column is the list of its blocks by lanes.
use Rattle.std.specs.Prelude.{ℕ, zero, suc, ◌-◌, ◌*◌, ◌/◌, ◌%◌, Bool, true, false, ◌&&◌, nat_eq, nat_lt, List, [], ◌∷◌, ◌++◌, length, map, fold, get_or}
use Rattle.std.specs.List.{range_with_len}
use Rattle.byteorder.specs.Endian.{little_bytes}
use Rattle.blake.specs.Words.{words, bytes_of_words}
use Rattle.blake.specs.Blake2b.{blake2b}
use Rattle.blake.specs.LongHash.{long_hash}
use Rattle.four_words.specs.Words.{xored_words}
use Rattle.argon.specs.Compression.{compression, zero_block}
use Rattle.argon.specs.Reference.{reference_words, reference_lane, reference_number}
pub use Rattle.argon.specs.Parameters.{Parameters, Inputs, segment_len, lane_len, block_count}

-- a text after its length in four bytes, as LE32(length(P)) || P (3.2, step 1)
abbrev pub with_length : List ℕ → List ℕ
with_length text = little_bytes 4 (length text) ++ text

-- H_0, the hash of the parameters and the texts, of 64 bytes (3.2, step 1)
unfoldable pub first_hash : Parameters → Inputs → List ℕ
first_hash parameters inputs =
    blake2b 64 (little_bytes 4 parameters.lanes ++ little_bytes 4 parameters.tag_len
    ++ little_bytes 4 parameters.memory_kib ++ little_bytes 4 parameters.passes
    ++ little_bytes 4 parameters.version ++ little_bytes 4 parameters.kind
    ++ with_length inputs.password ++ with_length inputs.salt
    ++ with_length inputs.secret ++ with_length inputs.associated)

-- B[i][0] or B[i][1], the block of column 0 or 1 of lane i in the first pass: H' of 1,024 bytes of H_0 ||
-- LE32(column) || LE32(i), as words (3.2, steps 3 and 4)
unfoldable pub block_from_h0 : List ℕ → ℕ → ℕ → List ℕ
block_from_h0 h0 column lane =
    words 128 (long_hash 1024 (h0 ++ little_bytes 4 column ++ little_bytes 4 lane))

-- the block of a lane in the column with a number, of a list of columns by their numbers
abbrev pub block_of : List (List (List ℕ)) → ℕ → ℕ → List ℕ
block_of columns number lane = get_or (get_or columns number []) lane []

-- whether the old block of a place is xored in: from the second pass on (3.2, step 6), but not in version 0x10
abbrev pub is_xored_in : Parameters → ℕ → Bool
is_xored_in parameters pass = nat_eq parameters.version 0x13 && nat_lt 0 pass

-- what is stored at a place: the new block (3.2, step 5), xored with the old one where that is xored in (3.2, step 6)
abbrev pub stored_block : Bool → List ℕ → List ℕ → List ℕ
stored_block false old new = new
stored_block true old new = xored_words new old

-- what is stored as the block with a number, in a lane, pass, slice and index in the segment, if J is its word: it is
-- made of G of the block before it and of B[l][z], the block that J names, and of the old block of its place;
-- `blocks` gives the blocks of lower numbers, by number and lane (3.2, steps 5 and 6)
abbrev pub stored_block_by_j1_j2 : Parameters → (ℕ → ℕ → List ℕ) → ℕ → ℕ → ℕ → ℕ → ℕ → ℕ → List ℕ
stored_block_by_j1_j2 parameters blocks number pass lane slice index j =
    stored_block (is_xored_in parameters pass) (blocks (number - lane_len parameters) lane)
    (compression (blocks (number - 1) lane)
    (blocks (reference_number parameters pass lane slice index j) (reference_lane parameters pass lane slice j)))

-- what is stored as the block with a number, in a lane, pass, slice and index in the segment, with the word J that
-- belongs to this place; `blocks` gives the blocks of lower numbers, by number and lane (3.2, steps 5 and 6; 3.4.1)
unfoldable pub block_at : Parameters → (ℕ → ℕ → List ℕ) → ℕ → ℕ → ℕ → ℕ → ℕ → List ℕ
block_at parameters blocks number pass lane slice index =
    stored_block_by_j1_j2 parameters blocks number pass lane slice index
    (reference_words parameters pass lane slice index (blocks (number - 1) lane))

-- what is stored as the block of a lane with a number from 2 on, by the blocks of lower numbers; its pass, slice and
-- index in the segment follow from the number (3.2, steps 5 and 6)
abbrev pub next_block : Parameters → (ℕ → ℕ → List ℕ) → ℕ → ℕ → List ℕ
next_block parameters blocks number lane =
    block_at parameters blocks number (number / lane_len parameters) lane
    (number % lane_len parameters / segment_len parameters) (number % segment_len parameters)

-- a list of columns by their numbers, and the next column after them: one block for each lane (3.2, steps 5 and 6)
abbrev pub with_next_matrix_column : Parameters → List (List (List ℕ)) → List (List (List ℕ))
with_next_matrix_column parameters columns =
    columns ++ map (next_block parameters (block_of columns) (length columns)) (range_with_len 0 parameters.lanes) ∷ []

-- columns 0 and 1 of the first pass, which come from H_0 (3.2, steps 3 and 4), and `count` columns after them (steps
-- 5 and 6)
unfoldable pub matrix_columns : Parameters → List ℕ → ℕ → List (List (List ℕ))
matrix_columns parameters h0 zero =
    map (block_from_h0 h0 0) (range_with_len 0 parameters.lanes)
    ∷ map (block_from_h0 h0 1) (range_with_len 0 parameters.lanes) ∷ []
matrix_columns parameters h0 (suc count) = with_next_matrix_column parameters (matrix_columns parameters h0 count)

-- B: the block of a lane in the column with a number, where column c of pass r has the number r * q + c (3.2, steps 3
-- to 6)
unfoldable pub matrix_block : Parameters → List ℕ → ℕ → ℕ → List ℕ
matrix_block parameters h0 number lane = block_of (matrix_columns parameters h0 (number - 1)) number lane

-- C, the xor of the blocks of a column, which is the last one (3.2, step 7)
abbrev pub xor_of_column_blocks : List (List ℕ) → List ℕ
xor_of_column_blocks column = fold xored_words zero_block column

-- the tag by the columns of all passes: C of the last column of the last pass, and H' of C (3.2, steps 7 and 8)
abbrev pub tag_of_columns : Parameters → List (List (List ℕ)) → List ℕ
tag_of_columns parameters columns =
    long_hash parameters.tag_len
    (bytes_of_words (xor_of_column_blocks (get_or columns (parameters.passes * lane_len parameters - 1) [])))

-- the tag by H_0: the t * q columns of all passes, of which the first two come from H_0, and what is made of the last
-- one (3.2, steps 3 to 8)
unfoldable pub tag_by_first_hash : Parameters → List ℕ → List ℕ
tag_by_first_hash parameters h0 =
    tag_of_columns parameters (matrix_columns parameters h0 (parameters.passes * lane_len parameters - 2))

-- the tag of the texts under the parameters (3.2, steps 1 to 8)
unfoldable pub argon2_tag : Parameters → Inputs → List ℕ
argon2_tag parameters inputs = tag_by_first_hash parameters (first_hash parameters inputs)
