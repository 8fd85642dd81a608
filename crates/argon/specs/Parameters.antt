-- The inputs of Argon2 and the size of its memory (RFC 9106, 3.1 and 3.2).
use Rattle.std.specs.Prelude.{ℕ, ◌*◌, ◌/◌, List}

-- the parameters (3.1)
pub record Parameters : Type 0 where
  -- y, the type: 0 for Argon2d, 1 for Argon2i, 2 for Argon2id
  pub kind : ℕ
  -- v, the version: 0x10 or 0x13
  pub version : ℕ
  -- t, the number of passes
  pub passes : ℕ
  -- p, the number of lanes
  pub lanes : ℕ
  -- m in KiB, as it was given
  pub memory_kib : ℕ
  -- T, the length of the tag, in bytes
  pub tag_len : ℕ
  -- the length of the salt S, in bytes
  pub salt_len : ℕ
  -- the length of the password P, in bytes
  pub password_len : ℕ

-- the texts P, S, K and X, as lists of bytes: password, salt, secret value and associated data (3.1)
pub record Inputs : Type 0 where
  pub password : List ℕ
  pub salt : List ℕ
  pub secret : List ℕ
  pub associated : List ℕ

-- how many columns a segment has: q / 4 (3.4; 3.2, step 2)
abbrev pub segment_len : Parameters → ℕ
segment_len parameters = parameters.memory_kib / (4 * parameters.lanes)

-- q = m' / p, how many columns a lane has (3.2, step 2)
abbrev pub lane_len : Parameters → ℕ
lane_len parameters = 4 * segment_len parameters

-- m' = 4 * p * floor(m / (4 * p)), how many blocks there are (3.2, step 2)
abbrev pub block_count : Parameters → ℕ
block_count parameters = parameters.lanes * lane_len parameters
