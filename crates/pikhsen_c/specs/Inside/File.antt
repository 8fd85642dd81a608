-- What private functions say of a file, of its text, and of a decryption of it.
use Rattle.std.specs.Prelude.{◌≡◌, ℕ, ◌+◌, ◌-◌, ◌^◌, ◌<◌, ◌≤◌, List, [], Option, Some, None, length, take}
use Rattle.std.specs.Borrow.{Bor}
use Rattle.encfile.specs.Decrypting.{DecryptionHasRead}
use Rattle.encfile.specs.Header.{CostsAndSalt, IsHeaderOf}
use Rattle.encfile.specs.declared.dec.Dec.{Dec}
use Rattle.pikhsen_c.specs.File.{HasRightHeaderHmac, costs_of, released_text, salt_of}

-- ---- the text of an encryption: the one that is given, or else all of the file's buffer but its last 128 bytes

abbrev pub text_to_encrypt : Option (Bor (List ℕ)) → List ℕ → List ℕ
text_to_encrypt None out = take (length out - 128) out
text_to_encrypt (Some text) out = text.now

-- its length
abbrev pub length_of_text_to_encrypt : Option (Bor (List ℕ)) → ℕ → ℕ
length_of_text_to_encrypt None out_len = out_len - 128
length_of_text_to_encrypt (Some text) out_len = length text.now

-- a text of this length is short enough, and a buffer of that is as long as its file
pub record FitsFile (text_len out_len : ℕ) : Type 0 where
  pub short : text_len < 2 ^ 60
  pub room : out_len ≡ text_len + 128

-- ---- the front of a file

-- the file has the first 96 bytes
abbrev pub HasFront : List ℕ → Type 0
HasFront file = 96 ≤ length file

-- the file begins with this header, which says these costs and this salt
pub record BeginsWithHeader (file : List ℕ) (header : CostsAndSalt) : Type 0 where
  pub bytes : IsHeaderOf (take 64 file) header
  pub costs : header.costs ≡ costs_of (take 64 file)
  pub salt : header.salt ≡ salt_of (take 64 file)

-- a decryption was opened on the first 96 bytes of the file, of which this is the passphrase; they release no text
pub record IsOpened (file passphrase : List ℕ) (dec : Dec) : Type 0 where
  pub opened : DecryptionHasRead dec passphrase (take 96 file)
  pub nothing : released_text (take 96 file) passphrase ≡ []
  pub right : HasRightHeaderHmac (take 96 file) passphrase
