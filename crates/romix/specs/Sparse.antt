-- The work of a derivation over a table that keeps row i of V where s divides i.
use Rattle.std.specs.Prelude.{ℕ, zero, suc, ◌+◌, ◌*◌, ◌%◌, ◌^◌, List}
use Rattle.macs.specs.Pbkdf2.{pbkdf2}
use Rattle.romix.specs.Costs.{parts_bytes}
use Rattle.romix.specs.Romix.{integerify, romix_row_after_turns}
use Rattle.romix.specs.Scrypt.{part_at, words_of}
use Rattle.romix.specs.SparseCosts.{CostsAndKeep}

-- the BlockMixes from kept rows to the rows that the first i turns of step 3 read (RFC 7914, 5): row j is j mod s
-- after a kept one
unfoldable pub mix_count_from_kept_rows : List ℕ → ℕ → ℕ → ℕ → ℕ
mix_count_from_kept_rows b n s zero = 0
mix_count_from_kept_rows b n s (suc i) = mix_count_from_kept_rows b n s i + integerify (romix_row_after_turns b n i) % s

-- the BlockMixes of a ROMix (RFC 7914, 5): n that fill the table, n of the turns, and those from kept rows to the
-- rows that the turns read
unfoldable pub mixes : List ℕ → ℕ → ℕ → ℕ
mixes b n s = 2 * n + mix_count_from_kept_rows b n s n

-- the BlockMixes of the ROMixes of the first k parts of B (RFC 7914, 6, step 2)
unfoldable pub block_mix_count_of_parts : List ℕ → CostsAndKeep → ℕ → ℕ
block_mix_count_of_parts b s zero = 0
block_mix_count_of_parts b s (suc k) =
    block_mix_count_of_parts b s k + mixes (words_of (part_at b s.costs.r k) (32 * s.costs.r)) (2 ^ s.costs.log_n) s.keep

-- the Salsa20/8 cores of a derivation over the rows that are kept: 2 * r a BlockMix (RFC 7914, 4)
unfoldable pub sparse_table_core_count : List ℕ → List ℕ → CostsAndKeep → ℕ
sparse_table_core_count password salt s =
    2 * s.costs.r * block_mix_count_of_parts (pbkdf2 password salt (parts_bytes s.costs)) s s.costs.p
