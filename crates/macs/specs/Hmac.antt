-- What contracts see of a running HMAC: its key and the message so far.
use Rattle.std.specs.Prelude.{ℕ, List, ◌++◌}
use Rattle.sha2.specs.Hashers.{Holds256}
use Rattle.macs.specs.HmacSha256.{inner_key, outer_key}
use Rattle.macs.specs.declared.hmac.Hmac.{Hmac}

-- the running HMAC `mac` has this key, and was given the bytes of this message so far
unfoldable pub Holds : Hmac → List ℕ → List ℕ → Type 0
Holds mac key message = Holds256 mac.inner (inner_key key ++ message) × Holds256 mac.outer (outer_key key)

-- these bytes were appended to the message of a running HMAC, whatever its key and its message were
abbrev pub AppendsToMessage : List ℕ → Hmac → Hmac → Type 0
AppendsToMessage bytes before after = (key message : List ℕ) → Holds before key message → Holds after key (message ++ bytes)
