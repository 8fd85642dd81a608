-- The passphrase of a run: the first line of its source.
use Rattle.std.specs.Prelude.{◌≡◌, ◌<◌, ◌≤◌, ◌⊎◌, ℕ, List, Option, Some, option_map, length}
use Rattle.host.specs.FirstLine.{first_line}
use Rattle.host.specs.HostState.{SecretSource, HostState}
use Rattle.host.specs.Secret.{secret_bytes_in_host}
use Rattle.scrypt_request.specs.declared.refusal.ScryptRefusal.{ScryptRefusal}
use Rattle.scrypt_request.specs.declared.refusal.ScryptRefusal.TheVariants as refusal

-- the first line of a source, if the host has it
abbrev pub first_line_of_source : SecretSource → HostState → Option (List ℕ)
first_line_of_source source s = option_map first_line (secret_bytes_in_host source s)

-- the source is there, and its first line, of at most 2,048 bytes, is the passphrase
pub record HasPassphrase (line : Option (List ℕ)) (passphrase : List ℕ) : Type 0 where
  pub is : line ≡ Some passphrase
  pub fits : length passphrase ≤ 2048

-- the passphrase is refused: the host failed to give the source, or its first line has more than 2,048 bytes
abbrev pub PassphraseRefused : ScryptRefusal → Option (List ℕ) → Type 0
PassphraseRefused r line = (r ≡ refusal.PassphraseFault)
    ⊎ ((r ≡ refusal.LongPassphrase) × (long : List ℕ) × (line ≡ Some long) × (2048 < length long))
