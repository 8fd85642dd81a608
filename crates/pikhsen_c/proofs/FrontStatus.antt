-- Which number is told: the first of two that is not 0; of a file, that of what is refused after its lengths.
use Rattle.std.proofs.Common.{◌≡◌, ◌≤◌, ℕ, List, length, refl, arith}
use Rattle.std.proofs.lemmas.Bool.{le-ltb, ne_eqb}
use Rattle.pikhsen_c.specs.File.{front_status, header_and_limits_status}
use Rattle.pikhsen_c.specs.Status.{first_nonzero_status}
use Rattle.pikhsen_c.specs.Stream.{decrypt_start_status}

pub first_is : (first second status : ℕ) → first ≡ status → 1 ≤ status → first_nonzero_status first second ≡ status
first_is first second status same some = rw (ne_eqb first 0 (λ none. omega (arith, none, same, some))) same

-- there is room for its text, and it is long enough for a header
pub front_is : (file : List ℕ) (keep max_bytes max_ops out_len : ℕ) → length file ≤ out_len → 96 ≤ length file
    → front_status file keep max_bytes max_ops out_len ≡ header_and_limits_status file keep max_bytes max_ops
front_is file keep max_bytes max_ops out_len room long =
    rw (le-ltb out_len (length file) room, le-ltb (length file) 96 long) refl

-- the same of the start of a stream
pub start_is : (runs : ℕ) (front : List ℕ) (keep max_bytes max_ops : ℕ) → runs ≡ 0 → 96 ≤ length front
    → decrypt_start_status runs front keep max_bytes max_ops ≡ header_and_limits_status front keep max_bytes max_ops
start_is runs front keep max_bytes max_ops idle long = rw (idle, le-ltb (length front) 96 long) refl
