-- scrypt's encrypted file, version 0 (Tarsnap's FORMAT), as lists of bytes. Offsets are FORMAT's.
use Rattle.std.specs.Prelude.{◌≡◌, ℕ, ◌+◌, ◌-◌, ◌^◌, ◌<◌, ◌≤◌, List, [], ◌++◌, length, take, drop, nat_le, if◌then◌else◌}
pub use Rattle.macs.specs.HmacSha256.{hmac_sha256}
use Rattle.romix.specs.Costs.{IsInRange, Parameters, cores}
use Rattle.romix.specs.Scrypt.{scrypt}
use Rattle.romix.specs.Sparse.{sparse_table_core_count}
use Rattle.romix.specs.SparseCosts.{CostsAndKeep, cores_bound}
use Rattle.romix.specs.Workspace.{Memory}
use Rattle.aes_ctr.specs.CounterMode.{counter_mode}
use Rattle.encfile.specs.Header.{bytes_at, costs_of, header, salt_of}

-- ---- the file of a text

-- the 64 bytes of keys, which scrypt gives of the passphrase and the salt
unfoldable pub derived_key : List ℕ → List ℕ → Parameters → List ℕ
derived_key passphrase salt costs = scrypt passphrase salt (2 ^ costs.log_n) costs.r costs.p 64

-- the first 32 of the 64 bytes of keys: the key of AES-256
abbrev pub cipher_key : List ℕ → List ℕ → Parameters → List ℕ
cipher_key passphrase salt costs = take 32 (derived_key passphrase salt costs)

-- the last 32 of the 64 bytes of keys: the key of HMAC-SHA-256
abbrev pub hmac_key : List ℕ → List ℕ → Parameters → List ℕ
hmac_key passphrase salt costs = drop 32 (derived_key passphrase salt costs)

-- bytes 64 to 95: the HMAC of bytes 0 to 63
abbrev pub header_hmac : List ℕ → List ℕ → Parameters → List ℕ
header_hmac passphrase salt costs = hmac_sha256 (hmac_key passphrase salt costs) (header costs salt)

-- bytes 0 to 95: the header of 64 bytes and its HMAC
unfoldable pub head : List ℕ → List ℕ → Parameters → List ℕ
head passphrase salt costs = header costs salt ++ header_hmac passphrase salt costs

-- all but the last 32 bytes of the file: bytes 0 to 95, and from byte 96 on the encrypted text
unfoldable pub body : List ℕ → List ℕ → Parameters → List ℕ → List ℕ
body passphrase salt costs text = head passphrase salt costs ++ counter_mode (cipher_key passphrase salt costs) text

-- the last 32 bytes of the file: the HMAC of all bytes before them
abbrev pub final_hmac : List ℕ → List ℕ → Parameters → List ℕ → List ℕ
final_hmac passphrase salt costs text = hmac_sha256 (hmac_key passphrase salt costs) (body passphrase salt costs text)

-- the whole file of a text under a passphrase, with this salt and these costs
unfoldable pub encrypted_file : List ℕ → List ℕ → Parameters → List ℕ → List ℕ
encrypted_file passphrase salt costs text = body passphrase salt costs text ++ final_hmac passphrase salt costs text

-- the file is that of the text under the passphrase, with some salt of 32 bytes and some costs in range, and the text
-- has fewer than 2^60 bytes, which is this project's bound
pub record IsEncryptionOf (file passphrase text : List ℕ) : Type 0 where
  pub salt : List ℕ
  pub costs : Parameters
  pub salt_has_32_bytes : length salt ≡ 32
  pub in_range : IsInRange costs
  pub below_limit : length text < 2 ^ 60
  pub bytes : file ≡ encrypted_file passphrase salt costs text

-- ---- what a file gives back, whether its codes are right or not

-- what a file gives back under a passphrase, whether its codes are right or not: the bytes between the first 96 and
-- the last 32, decrypted by the costs and the salt of its header; nothing where it has fewer than 128 bytes
unfoldable pub released_text : List ℕ → List ℕ → List ℕ
released_text file passphrase =
    if nat_le 128 (length file)
    then counter_mode (cipher_key passphrase (salt_of file) (costs_of file)) (bytes_at file 96 (length file - 128))
    else []

-- what bytes 64 to 95 of a file should be: the HMAC of bytes 0 to 63, under the key that the passphrase gives with
-- the costs and the salt that stand in bytes 7 to 47
abbrev pub right_header_hmac : List ℕ → List ℕ → List ℕ
right_header_hmac file passphrase = hmac_sha256 (hmac_key passphrase (salt_of file) (costs_of file)) (take 64 file)

-- bytes 64 to 95 of the file are the HMAC of bytes 0 to 63 under the passphrase
abbrev pub HasRightHeaderHmac : List ℕ → List ℕ → Type 0
HasRightHeaderHmac file passphrase = bytes_at file 64 32 ≡ right_header_hmac file passphrase

-- ---- the work of the derivation of the keys

-- the count of Salsa20/8 cores went on by those of one derivation
abbrev pub CountsDerivation : List ℕ → List ℕ → CostsAndKeep → ℕ → ℕ → Type 0
CountsDerivation passphrase salt sparse before after = after ≡ before + sparse_table_core_count passphrase salt sparse

-- and by no more than the bound that the costs and S tell before it begins
abbrev pub CountsWithinBound : CostsAndKeep → ℕ → ℕ → Type 0
CountsWithinBound sparse before after = after ≤ before + cores_bound sparse

-- the keys are derived once, with these costs, in a workspace that stays as it was; `m` and `n` are the counts of Salsa20/8
-- cores before and after it, and with S = 1 it takes those of the costs
pub record DerivesKeys (passphrase salt : List ℕ) (costs : Parameters) (before after : Memory) (m n : ℕ) : Type 0 where
  pub memory : after ≡ before
  pub count : CountsDerivation passphrase salt before.sparse m n
  pub bound : CountsWithinBound before.sparse m n
  pub whole : before.sparse.keep ≡ 1 → n ≡ m + cores costs
