-- What the requests of a workspace leave of a source of memory.
use Rattle.std.specs.Prelude.{ℕ, Bool, zero, suc, true, ◌*◌, ◌/◌}
use Rattle.romix.specs.SparseCosts.{CostsAndKeep, sparse_table_bytes}

-- what is left of a source that was asked for the words of the table and then for those of so many rows, where the last
-- of these requests was granted, or was refused, and each one before it was granted; `after` says what one request for so
-- many words leaves of it
abbrev pub after_table_and_row_requests : {Source : Type 0} → (Source → ℕ → Bool → Source) → CostsAndKeep → Source → ℕ → Bool → Source
after_table_and_row_requests after s source zero granted = after source (sparse_table_bytes s / 4) granted
after_table_and_row_requests after s source (suc rows) granted = after (after_table_and_row_requests after s source rows true) (32 * s.costs.r) granted
