-- What contracts see of a stream between calls, and what the calls make of it.
use Rattle.std.specs.Prelude.{◌≡◌, ◌≢◌, ◌==◌, ℕ, ◌+◌, ◌^◌, ◌<◌, ◌≤◌, ◌++◌, not, nat_lt, List, [], length, take, drop, Option, Some, None, if◌then◌else◌}
use Rattle.romix.specs.Costs.{Parameters}
pub use Rattle.encfile.specs.EncryptedFile.{HasRightHeaderHmac, IsEncryptionOf, body, encrypted_file, released_text}
use Rattle.encfile.specs.Encrypting.{ForAllEncrypted, HasEncrypted, OfEncryption}
use Rattle.encfile.specs.Decrypting.{DecryptionHasRead, ForAllRead, HasHeldBytesAfter, OfDecryption}
use Rattle.pikhsen_c.specs.File.{encrypt_status, header_and_limits_status}
use Rattle.pikhsen_c.specs.Status.{damaged_status, short_file_status, wrong_passphrase_status, wrong_stream_state_status, IsUnchangedIfRefused, ReturnsNoLengthIfRefused}
use Rattle.pikhsen_c.specs.declared.stream.StreamState.{StreamState}
use Rattle.pikhsen_c.specs.declared.stream.StreamState.TheVariants as running
use Rattle.pikhsen_c.specs.declared.stream.PikhsenStream.{PikhsenStream}

-- it is an encryption, which has encrypted this text so far
abbrev pub StreamStateHasEncrypted : StreamState → List ℕ → List ℕ → Parameters → List ℕ → Type 0
StreamStateHasEncrypted (running.Enc enc) passphrase salt costs text = HasEncrypted enc passphrase salt costs text
StreamStateHasEncrypted (running.Dec dec) passphrase salt costs text = ⊥
StreamStateHasEncrypted (running.Over zeros) passphrase salt costs text = ⊥

-- it is a decryption, which has read this file so far
abbrev pub StreamStateHasRead : StreamState → List ℕ → List ℕ → Type 0
StreamStateHasRead (running.Enc enc) passphrase file = ⊥
StreamStateHasRead (running.Dec dec) passphrase file = DecryptionHasRead dec passphrase file
StreamStateHasRead (running.Over zeros) passphrase file = ⊥

abbrev KeptEncrypts : Option StreamState → List ℕ → List ℕ → Parameters → List ℕ → Type 0
KeptEncrypts None passphrase salt costs text = ⊥
KeptEncrypts (Some run) passphrase salt costs text = StreamStateHasEncrypted run passphrase salt costs text

abbrev KeptReads : Option StreamState → List ℕ → List ℕ → Type 0
KeptReads None passphrase file = ⊥
KeptReads (Some run) passphrase file = StreamStateHasRead run passphrase file

-- the stream runs, and has encrypted this text so far, for the file of this passphrase, salt and costs
pub record StreamHasEncrypted (stream : PikhsenStream) (passphrase salt : List ℕ) (costs : Parameters) (text : List ℕ)
    : Type 0 where
  pub runs : stream.runs ≡ 1
  pub kept : KeptEncrypts stream.kept.value passphrase salt costs text

-- the stream runs, and has read this file so far, under this passphrase
pub record StreamHasRead (stream : PikhsenStream) (passphrase file : List ℕ) : Type 0 where
  pub runs : stream.runs ≡ 2
  pub kept : KeptReads stream.kept.value passphrase file

-- the stream runs as it did, and keeps what it kept
pub record IsAsBefore (before after : PikhsenStream) : Type 0 where
  pub runs : after.runs ≡ before.runs
  pub kept : after.kept.value ≡ before.kept.value

-- ---- what a start is refused for before memory is asked for, by its number; or 0

-- the same of an encryption
abbrev pub encrypt_start_status : ℕ → Parameters → ℕ → ℕ → ℕ → ℕ → ℕ → ℕ
encrypt_start_status runs costs keep max_bytes max_ops salt_len head_len =
    if not (runs == 0) then wrong_stream_state_status else encrypt_status costs keep max_bytes max_ops salt_len 0 (head_len + 32)

-- the same of a decryption, whatever the passphrase
abbrev pub decrypt_start_status : ℕ → List ℕ → ℕ → ℕ → ℕ → ℕ
decrypt_start_status runs front keep max_bytes max_ops =
    if not (runs == 0) then wrong_stream_state_status
    else if nat_lt (length front) 96 then short_file_status
    else header_and_limits_status front keep max_bytes max_ops

-- a stream has begun to read the file of these first bytes, whose passphrase is right; or it is told that this is wrong
pub record BeginsToRead (stream : PikhsenStream) (passphrase front : List ℕ) (status : ℕ) : Type 0 where
  pub begun : status ≡ 0 → StreamHasRead stream passphrase (take 96 front)
  pub nothing : status ≡ 0 → released_text (take 96 front) passphrase ≡ []
  pub right : status ≡ 0 → HasRightHeaderHmac (take 96 front) passphrase
  pub wrong : status ≡ wrong_passphrase_status → HasRightHeaderHmac (take 96 front) passphrase → ⊥

-- ---- what the other calls tell of a stream

-- where what runs is not wanted, the number says so; any other refusal has one number
pub record TellsOfStream (wanted runs refusal status : ℕ) : Type 0 where
  pub other : runs ≢ wanted → status ≡ wrong_stream_state_status
  pub late : runs ≡ wanted → status ≢ 0 → status ≡ refusal

-- nothing runs, and nothing is kept
pub record IsOver (stream : PikhsenStream) : Type 0 where
  pub idle : stream.runs ≡ 0
  pub empty : stream.kept.value ≡ None

-- the stream has ended, or is left as it was
pub record EndsStream (IsEnd IsRefusal : Type 0) (before after : PikhsenStream) : Type 0 where
  pub over : IsEnd → IsOver after
  pub unchanged : IsRefusal → after ≡ before

-- ---- what the calls make of an encryption, of which a predicate says what it has encrypted so far

-- the text that it has encrypted grows by a piece
abbrev pub EncryptsNextPiece : OfEncryption → OfEncryption → List ℕ → Type 0
EncryptsNextPiece Had Has piece = ForAllEncrypted Had (λ passphrase salt costs text. Has passphrase salt costs (text ++ piece))

-- these bytes are the next of the file, where its text grows by a piece
abbrev pub AreNextFileBytes : OfEncryption → List ℕ → List ℕ → Type 0
AreNextFileBytes Had piece bytes = ForAllEncrypted Had
    (λ passphrase salt costs text. body passphrase salt costs text ++ bytes ≡ body passphrase salt costs (text ++ piece))

-- so many more bytes are encrypted where the text stays below 2^60 bytes
abbrev pub EncryptsUnlessTextTooLong : OfEncryption → ℕ → ℕ → Type 0
EncryptsUnlessTextTooLong Had more status = ForAllEncrypted Had (λ _ _ _ text. length text + more < 2 ^ 60 → status ≡ 0)

-- a piece of the text is encrypted in place, to the next bytes of the file; where it would be too long, it stays
pub record EncryptsPiece (Had Has : OfEncryption) (before after : List ℕ) (status : ℕ) : Type 0 where
  pub fed : status ≡ 0 → EncryptsNextPiece Had Has before
  pub written : status ≡ 0 → AreNextFileBytes Had before after
  pub fits : EncryptsUnlessTextTooLong Had (length before) status
  pub untouched : IsUnchangedIfRefused status before after

-- these bytes are the last of the file
abbrev pub AreLastFileBytes : OfEncryption → List ℕ → Type 0
AreLastFileBytes Had code = ForAllEncrypted Had
    (λ passphrase salt costs text. body passphrase salt costs text ++ code ≡ encrypted_file passphrase salt costs text)

-- ---- what the calls make of a decryption, of which a predicate says what it has read so far

-- the file that it has read grows by a piece
abbrev pub ReadsNextPiece : OfDecryption → OfDecryption → List ℕ → Type 0
ReadsNextPiece Had Has piece = ForAllRead Had (λ passphrase file. Has passphrase (file ++ piece))

-- this text is released where the file grows by a piece
abbrev pub IsNextReleasedText : OfDecryption → List ℕ → List ℕ → Type 0
IsNextReleasedText Had piece text = ForAllRead Had
    (λ passphrase file. released_text file passphrase ++ text ≡ released_text (file ++ piece) passphrase)

-- so many more bytes are read where the file stays below 2^60 + 128 bytes
abbrev pub ReadsUnlessFileTooLong : OfDecryption → ℕ → ℕ → Type 0
ReadsUnlessFileTooLong Had more status = ForAllRead Had (λ _ file. length file + more < 2 ^ 60 + 128 → status ≡ 0)

-- a piece of the file is read, which releases so many bytes of text, the first of a buffer; after them come those that
-- are held, and then what stood there before. Where the file would be too long, the buffer stays
pub record ReadsPiece (Had Has : OfDecryption) (piece old new : List ℕ) (count status : ℕ) : Type 0 where
  pub read : status ≡ 0 → ReadsNextPiece Had Has piece
  pub released : status ≡ 0 → IsNextReleasedText Had piece (take count new)
  pub held : status ≡ 0 → ForAllRead Had (λ _ file. HasHeldBytesAfter count (file ++ piece) old new)
  pub within : status ≡ 0 → count ≤ length piece
  pub rest : status ≡ 0 → drop (length piece + 32) new ≡ drop (length piece + 32) old
  pub fits : length piece + 32 ≤ length old → ReadsUnlessFileTooLong Had (length piece) status
  pub untouched : IsUnchangedIfRefused status old new
  pub nothing : ReturnsNoLengthIfRefused status count

-- the file is an encryption of the text that was released
abbrev pub IsEncryptionOfReleasedText : OfDecryption → Type 0
IsEncryptionOfReleasedText Had = ForAllRead Had (λ passphrase file. IsEncryptionOf file passphrase (released_text file passphrase))

-- the file is no encryption of the text that was released
abbrev pub IsNoEncryptionOfReleasedText : OfDecryption → Type 0
IsNoEncryptionOfReleasedText Had = ForAllRead Had
    (λ passphrase file. IsEncryptionOf file passphrase (released_text file passphrase) → ⊥)

-- the number says whether the file is an encryption of the text that was released
pub record JudgesFile (Had : OfDecryption) (status : ℕ) : Type 0 where
  pub whole : status ≡ 0 → IsEncryptionOfReleasedText Had
  pub damaged : status ≡ damaged_status → IsNoEncryptionOfReleasedText Had
