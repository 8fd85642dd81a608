-- What contracts see of a running encryption.
use Rattle.std.specs.Prelude.{◌≡◌, ℕ, ◌+◌, ◌*◌, ◌^◌, ◌<◌, List, ◌++◌, length, take, drop}
use Rattle.macs.specs.Hmac.{Holds}
use Rattle.aes_ctr.specs.CounterMode.{counter_mode}
use Rattle.romix.specs.Costs.{IsInRange, Parameters}
use Rattle.encfile.specs.EncryptedFile.{body, derived_key, head}
use Rattle.encfile.specs.declared.enc.Enc.{Enc}

-- a running encryption with these first 96 bytes and these 64 bytes of keys, which has encrypted this text so far
pub record HasEncryptedWithKeys (enc : Enc) (front keys text : List ℕ) : Type 0 where
  pub header : enc.header ≡ front
  pub cipher : enc.ctr ≡ record { key = take 32 keys; position = length text }
  pub code : Holds enc.hmac (drop 32 keys) (front ++ counter_mode (take 32 keys) text)

-- a running encryption has encrypted this text so far, for the file of this passphrase, salt and costs
pub record HasEncrypted (enc : Enc) (passphrase salt : List ℕ) (costs : Parameters) (text : List ℕ) : Type 0 where
  pub state : HasEncryptedWithKeys enc (head passphrase salt costs) (derived_key passphrase salt costs) text
  pub salt_has_32_bytes : length salt ≡ 32
  pub in_range : IsInRange costs
  pub below_limit : length text < 2 ^ 60

-- what may be so of a passphrase, a salt, costs and a text
abbrev pub OfEncryption : Type 1
OfEncryption = List ℕ → List ℕ → Parameters → List ℕ → Type 0

-- whatever was encrypted so far, under whatever passphrase, salt and costs, this is so of it
abbrev pub ForAllEncrypted : OfEncryption → OfEncryption → Type 0
ForAllEncrypted Had IsSo = (passphrase salt : List ℕ) (costs : Parameters) (text : List ℕ) → Had passphrase salt costs text
    → IsSo passphrase salt costs text

-- SHA-256 inside HMAC takes the message after a block of 64 bytes; the length in bits, which it appends as a number
-- of 64 bits, doesn't wrap (FIPS 180-4, 5.1.1)
abbrev pub FitsSha256 : List ℕ → Type 0
FitsSha256 message = 8 * (64 + length message) < 2 ^ 64

-- an encryption takes the next bytes of this text, which stays below 2^60 bytes, and leaves them encrypted, so that the file
-- goes on by them; it has then encrypted them, too, and the length of all that is hashed fits SHA-256
pub record EncryptionTakes (bytes encrypted : List ℕ) (after : Enc) (passphrase salt : List ℕ) (costs : Parameters) (text : List ℕ) : Type 0 where
  pub fed : HasEncrypted after passphrase salt costs (text ++ bytes)
  pub written : body passphrase salt costs text ++ encrypted ≡ body passphrase salt costs (text ++ bytes)
  pub fits : length text + length bytes < 2 ^ 60
  pub hashed : FitsSha256 (body passphrase salt costs (text ++ bytes))
