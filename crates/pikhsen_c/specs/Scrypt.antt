-- What a caller gives to the functions for scrypt, and what they answer.
use Rattle.std.specs.Prelude.{ℕ, ◌*◌, ◌-◌, ◌^◌, nat_lt, nat_le, List, Option, Some, None, if◌then◌else◌}
use Rattle.romix.specs.Costs.{Parameters}
use Rattle.romix.specs.Faults.{cost_fault, keep_parameter_fault, sparse_limit_fault}
use Rattle.romix.specs.Sparse.{sparse_table_core_count}
use Rattle.romix.specs.SparseCosts.{CostsAndKeep}
use Rattle.romix.specs.declared.fault.CostFault.{CostFault}
use Rattle.romix.specs.declared.limits.Limits.{Limits}
use Rattle.pikhsen_c.specs.Status.{cost_fault_status, first_nonzero_status, wrong_buffer_status}

-- the costs of these numbers (RFC 7914, 2)
abbrev pub costs_of_numbers : ℕ → ℕ → ℕ → Parameters
costs_of_numbers log_n r p = record { log_n = log_n; r = r; p = p }

-- the costs with the rows of V kept whose number `keep` divides
abbrev pub costs_with_keep : Parameters → ℕ → CostsAndKeep
costs_with_keep costs keep = record { costs = costs; keep = keep }

-- the Salsa20/8 cores of a derivation with these numbers (RFC 7914, 6)
abbrev pub salsa20_cores_of_numbers : List ℕ → List ℕ → ℕ → ℕ → ℕ → ℕ → ℕ
salsa20_cores_of_numbers passphrase salt log_n r p keep = sparse_table_core_count passphrase salt (costs_with_keep (costs_of_numbers log_n r p) keep)

-- the limits that count: no more than 2^40 bytes are ever asked for
abbrev pub limits_of_numbers : ℕ → ℕ → Limits
limits_of_numbers max_bytes max_ops = record {
  max_bytes = if nat_le max_bytes (2 ^ 40) then max_bytes else 2 ^ 40;
  max_ops = max_ops;
}

-- ---- what is refused before memory is asked for, by its number; or 0

-- the number of a fault of costs; 0 where there is none
abbrev pub number_of : Option CostFault → ℕ
number_of None = 0
number_of (Some fault) = cost_fault_status fault

-- what the ranges of the costs are refused for, by its number; or 0
abbrev pub costs_status : Parameters → ℕ
costs_status costs = number_of (cost_fault costs.log_n costs.r costs.p)

-- what S is refused for, or then the limits refuse the costs for, by its number; or 0
abbrev pub limits_status : CostsAndKeep → ℕ → ℕ → ℕ
limits_status sparse max_bytes max_ops =
    first_nonzero_status (number_of (keep_parameter_fault sparse)) (number_of (sparse_limit_fault sparse (limits_of_numbers max_bytes max_ops)))

-- what the length of a key is refused for, by its number; or 0
abbrev pub key_length_status : ℕ → ℕ
key_length_status len = if nat_lt (32 * (2 ^ 32 - 1)) len then wrong_buffer_status else 0

-- what a derivation is refused for before memory is asked for, by its number; or 0
abbrev pub scrypt_status : Parameters → ℕ → ℕ → ℕ → ℕ → ℕ
scrypt_status costs keep max_bytes max_ops len =
    first_nonzero_status (costs_status costs)
    (first_nonzero_status (key_length_status len) (limits_status (costs_with_keep costs keep) max_bytes max_ops))
