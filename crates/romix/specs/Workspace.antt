-- What contracts see of a workspace.
use Rattle.std.specs.Prelude.{◌≡◌, ℕ, ◌*◌, ◌/◌, ◌^◌, ◌<◌}
use Rattle.romix.specs.SparseCosts.{CostsAndKeep}

-- the costs and S of a workspace, and the lengths of what it holds, in words of four bytes
pub record Memory : Type 0 where
  pub sparse : CostsAndKeep
  pub table_words : ℕ
  pub row_words : ℕ
  pub other_row_words : ℕ
  pub spare_row_words : ℕ

-- the lengths are those of the kept rows of V, of X and of T (RFC 7914, 4 and 5), and of one row more if not
-- every row is kept
pub record HasWorkspaceLengths (m : Memory) : Type 0 where
  pub table : m.table_words ≡ 32 * m.sparse.costs.r * (2 ^ m.sparse.costs.log_n / m.sparse.keep)
  pub row : m.row_words ≡ 32 * m.sparse.costs.r
  pub other_row : m.other_row_words ≡ 32 * m.sparse.costs.r
  pub no_spare_row : m.sparse.keep ≡ 1 → m.spare_row_words ≡ 0
  pub spare_row : 1 < m.sparse.keep → m.spare_row_words ≡ 32 * m.sparse.costs.r
