-- What contracts see of a running decryption.
use Rattle.std.specs.Prelude.{◌≡◌, ℕ, ◌+◌, ◌-◌, ◌^◌, ◌<◌, ◌≤◌, List, ◌++◌, length, take, drop, Result, OnOk, OnErr}
use Rattle.macs.specs.Hmac.{Holds}
use Rattle.romix.specs.Costs.{IsInRange, Parameters}
use Rattle.encfile.specs.EncryptedFile.{IsEncryptionOf, derived_key, head, released_text}
use Rattle.encfile.specs.Encrypting.{FitsSha256}
use Rattle.encfile.specs.declared.dec.Dec.{Dec}

-- a running decryption after these first 96 bytes, with these 64 bytes of keys: the bytes that it has decrypted are
-- `done`, and those that it holds are `last`
pub record HasDecryptedWithKeys (dec : Dec) (front keys done last : List ℕ) : Type 0 where
  pub cipher : dec.ctr ≡ record { key = take 32 keys; position = length done }
  pub held : dec.held ≡ last
  pub code : Holds dec.hmac (drop 32 keys) (front ++ done)

-- the file so far is the first 96 bytes with these costs and this salt, the bytes `done`, and the last bytes, which
-- are held: at most 32, and all 32 where any bytes are done
pub record IsSplit (file passphrase salt : List ℕ) (costs : Parameters) (done held : List ℕ) : Type 0 where
  pub salt_has_32_bytes : length salt ≡ 32
  pub in_range : IsInRange costs
  pub few : length held ≤ 32
  pub full : 0 < length done → length held ≡ 32
  pub bytes : file ≡ head passphrase salt costs ++ (done ++ held)

-- a running decryption was opened under the passphrase on the first 96 bytes of the file, and has read the file
pub record DecryptionHasRead (dec : Dec) (passphrase file : List ℕ) : Type 0 where
  pub salt : List ℕ
  pub costs : Parameters
  pub done : List ℕ
  pub held : List ℕ
  pub state : HasDecryptedWithKeys dec (head passphrase salt costs) (derived_key passphrase salt costs) done held
  pub split : IsSplit file passphrase salt costs done held
  pub below_limit : length file < 2 ^ 60 + 128

-- what may be so of a passphrase and a file
abbrev pub OfDecryption : Type 1
OfDecryption = List ℕ → List ℕ → Type 0

-- whatever was read so far, under whatever passphrase, this is so of it
abbrev pub ForAllRead : OfDecryption → OfDecryption → Type 0
ForAllRead Had IsSo = (passphrase file : List ℕ) → Had passphrase file → IsSo passphrase file

-- the bytes that are held once so much of a file was read: the last 32 after its first 96, or all, where they are fewer
abbrev pub held_bytes : List ℕ → List ℕ
held_bytes file = drop (length file - 128) (drop 96 file)

-- after its first `n` bytes a buffer has those that are held of the file, as they came, and then what it had before
abbrev pub HasHeldBytesAfter : ℕ → List ℕ → List ℕ → List ℕ → Type 0
HasHeldBytesAfter n file before after = drop n after ≡ held_bytes file ++ drop (n + length (held_bytes file)) before

-- a decryption reads the next piece of this file, which stays below 2^60 + 128 bytes, into a buffer of these bytes before and
-- after it: that gets the text of n bytes which the piece releases, and then the bytes that are held; the length of all that is
-- hashed, which is all but the last 32 bytes, fits SHA-256
pub record DecryptionTakes (piece old out : List ℕ) (n : ℕ) (after : Dec) (passphrase file : List ℕ) : Type 0 where
  pub read : DecryptionHasRead after passphrase (file ++ piece)
  pub released : released_text file passphrase ++ take n out ≡ released_text (file ++ piece) passphrase
  pub held : HasHeldBytesAfter n (file ++ piece) old out
  pub fits : length file + length piece < 2 ^ 60 + 128
  pub hashed : FitsSha256 (take (length file + length piece - 32) (file ++ piece))

-- with this result the bytes that a decryption has read are, all together, an encryption under the passphrase of the text that
-- they release; or they are none
pub record TellsWhetherWhole {A E : Type 0} (dec : Dec) (result : Result A E) : Type 0 where
  pub whole : OnOk result (ForAllRead (DecryptionHasRead dec) (λ passphrase file. IsEncryptionOf file passphrase (released_text file passphrase)))
  pub damaged : OnErr result (ForAllRead (DecryptionHasRead dec) (λ passphrase file. IsEncryptionOf file passphrase (released_text file passphrase) → ⊥))
