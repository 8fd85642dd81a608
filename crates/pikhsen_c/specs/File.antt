-- What a caller gives to the functions for encrypted files, and what they answer.
use Rattle.std.specs.Prelude.{◌≡◌, ◌≢◌, ℕ, ◌==◌, not, ◌+◌, ◌-◌, ◌^◌, ◌<◌, ◌≤◌, nat_lt, nat_le, List, length, replicate, take, drop, Option, Some, None, if◌then◌else◌}
pub use Rattle.encfile.specs.EncryptedFile.{HasRightHeaderHmac, IsEncryptionOf, encrypted_file, released_text}
pub use Rattle.encfile.specs.Header.{costs_of, salt_of}
pub use Rattle.encfile.specs.HeaderFaults.{header_fault}
use Rattle.encfile.specs.declared.fault.HeaderFault.{HeaderFault}
pub use Rattle.romix.specs.Costs.{Parameters}
use Rattle.romix.specs.Sparse.{sparse_table_core_count}
use Rattle.pikhsen_c.specs.Scrypt.{costs_status, limits_status, costs_with_keep}
use Rattle.pikhsen_c.specs.Status.{first_nonzero_status, damaged_status, header_fault_status, long_text_status, short_file_status, wrong_buffer_status, wrong_passphrase_status, wrong_salt_status, ReturnsNoLengthIfRefused}

-- ---- an encryption

-- what the lengths of salt, text and file are refused for, by its number; or 0
abbrev pub lengths_status : ℕ → ℕ → ℕ → ℕ
lengths_status salt_len text_len out_len =
    if not (salt_len == 32) then wrong_salt_status
    else if nat_le (2 ^ 60) text_len then long_text_status
    else if not (out_len == text_len + 128) then wrong_buffer_status
    else 0

-- what an encryption is refused for before memory is asked for, by its number; or 0
abbrev pub encrypt_status : Parameters → ℕ → ℕ → ℕ → ℕ → ℕ → ℕ → ℕ
encrypt_status costs keep max_bytes max_ops salt_len text_len out_len =
    first_nonzero_status (costs_status costs)
    (first_nonzero_status (lengths_status salt_len text_len out_len) (limits_status (costs_with_keep costs keep) max_bytes max_ops))

-- ---- the header of a file

-- the number of a fault of a header; 0 where there is none
abbrev pub number_of : Option HeaderFault → ℕ
number_of None = 0
number_of (Some fault) = header_fault_status fault

-- what the header of a file is refused for, by its number; or 0: the file has fewer than 64 bytes, or these have a
-- fault
abbrev pub header_status : List ℕ → ℕ
header_status file = if nat_lt (length file) 64 then short_file_status else number_of (header_fault (take 64 file))

-- what a file of at least 96 bytes is refused for, whatever the passphrase, before memory is asked for, by its
-- number; or 0
abbrev pub header_and_limits_status : List ℕ → ℕ → ℕ → ℕ → ℕ
header_and_limits_status file keep max_bytes max_ops =
    first_nonzero_status (number_of (header_fault (take 64 file)))
    (limits_status (costs_with_keep (costs_of (take 64 file)) keep) max_bytes max_ops)

-- what any file is refused for before memory is asked for, when its text is to go to so many bytes, by its number; or
-- 0
abbrev pub front_status : List ℕ → ℕ → ℕ → ℕ → ℕ → ℕ
front_status file keep max_bytes max_ops out_len =
    if nat_lt out_len (length file) then wrong_buffer_status
    else if nat_lt (length file) 96 then short_file_status
    else header_and_limits_status file keep max_bytes max_ops

-- the cores that are run to open a file under a passphrase, right or wrong
abbrev pub salsa20_cores_to_open : List ℕ → List ℕ → ℕ → ℕ
salsa20_cores_to_open passphrase file keep =
    sparse_table_core_count passphrase (salt_of (take 64 file)) (costs_with_keep (costs_of (take 64 file)) keep)

-- ---- what comes of a file that is opened

-- what each number says of the file, under a passphrase; there is none above 29
pub record IsFileVerdict (file passphrase : List ℕ) (status : ℕ) : Type 0 where
  pub wrong : status ≡ wrong_passphrase_status → HasRightHeaderHmac (take 96 file) passphrase → ⊥
  pub right : wrong_passphrase_status < status → HasRightHeaderHmac (take 96 file) passphrase
  pub damaged : status ≡ damaged_status → IsEncryptionOf file passphrase (released_text file passphrase) → ⊥
  pub too_long : status ≡ long_text_status → 2 ^ 60 + 128 ≤ length file
  pub high : status ≤ 29

-- a buffer gets the text of a whole file, of this length, and then zeros; zeros alone where the file is opened and is not
-- whole; and otherwise stays as it was
pub record WritesTextOfWholeFile (file passphrase old new : List ℕ) (len status : ℕ) : Type 0 where
  pub whole : status ≡ 0 → IsEncryptionOf file passphrase (take len new)
  pub rest : status ≡ 0 → drop len new ≡ replicate (length old - len) 0
  pub nothing : ReturnsNoLengthIfRefused status len
  pub zeros : wrong_passphrase_status < status → new ≡ replicate (length old) 0
  pub untouched : status ≢ 0 → status ≤ wrong_passphrase_status → new ≡ old
