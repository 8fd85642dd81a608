-- Which of the two runs.
use Rattle.std.specs.Prelude.{◌≡◌, ◌≢◌, ℕ, Bool, true, false, Option, Some, None}
use Rattle.pikhsen_c.specs.declared.stream.StreamState.{StreamState}
use Rattle.pikhsen_c.specs.declared.stream.StreamState.TheVariants as running

-- whether it is an encryption
abbrev pub is_encryption : StreamState → Bool
is_encryption (running.Enc enc) = true
is_encryption (running.Dec dec) = false
is_encryption (running.Over zeros) = false

-- whether it is a decryption
abbrev pub is_decryption : StreamState → Bool
is_decryption (running.Enc enc) = false
is_decryption (running.Dec dec) = true
is_decryption (running.Over zeros) = false

-- whether what is kept is one of these; nothing is none
abbrev pub kept_state_satisfies : (StreamState → Bool) → Option StreamState → Bool
kept_state_satisfies is_one None = false
kept_state_satisfies is_one (Some run) = is_one run

-- this may run under the number 1, an encryption, or 2, a decryption, in a stream that keeps nothing
pub record MayRun (kept : Option StreamState) (runs : ℕ) (state : StreamState) : Type 0 where
  pub empty : kept ≡ None
  pub one : runs ≢ 1 → runs ≢ 2 → ⊥
  pub encryption : runs ≡ 1 → is_encryption state ≡ true
  pub decryption : runs ≡ 2 → is_decryption state ≡ true
