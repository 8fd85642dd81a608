-- What the steps of `dec` after the first 96 bytes may come to: to each its rows of `DecryptRefused`. `front` are
-- these bytes, and the input of `before` are the bytes after them.
use Rattle.std.specs.Prelude.{◌≡◌, ◌+◌, ◌^◌, ◌⊎◌, Bool, ℕ, List, Option, Result, MatchResult, IsTrue}
pub use Rattle.encfile.specs.Decrypting.{DecryptionHasRead, ForAllRead}
use Rattle.encfile.specs.EncryptedFile.{HasRightHeaderHmac}
use Rattle.encfile.specs.Inside.Lengths.{bytes_read_so_far}
use Rattle.encfile.specs.declared.dec.Dec.{Dec}
use Rattle.host.specs.HostState.{HostState, Text, after_ask_output, after_open_output}
use Rattle.scrypt_run.specs.Decrypting.{Decrypted, IsDamaged}
pub use Rattle.scrypt_run.specs.Decrypting.{released_text_of_header_and_rest}
use Rattle.scrypt_run.specs.Passphrase.{HasPassphrase, PassphraseRefused}
use Rattle.scrypt_run.specs.Text.{RefusesDuringText}
use Rattle.scrypt_request.specs.declared.refusal.ScryptRefusal.{ScryptRefusal}
use Rattle.scrypt_request.specs.declared.refusal.ScryptRefusal.TheVariants as refusal

-- the decryption was opened on the first 96 bytes, and has read no more
pub record HasReadFrontAlone (dec : Dec) : Type 0 where
  pub none : bytes_read_so_far dec ≡ 0
  pub read : (passphrase front : List ℕ) × DecryptionHasRead dec passphrase front

-- the decryption was opened under a passphrase that the header's code is right under; where the host tells its bytes,
-- it is the one in this line
pub record IsOpened (tells : Bool) (line : Option (List ℕ)) (front : List ℕ) (dec : Dec) : Type 0 where
  pub passphrase : List ℕ
  pub given : IsTrue tells → HasPassphrase line passphrase
  pub right : HasRightHeaderHmac front passphrase
  pub read : DecryptionHasRead dec passphrase front

-- no passphrase, no memory, or a wrong passphrase; `line` is the first line of the passphrase's source
abbrev pub DecryptionStartRefused : ScryptRefusal → Option (List ℕ) → List ℕ → Type 0
DecryptionStartRefused r line front =
    PassphraseRefused r line
    ⊎ ((r ≡ refusal.OutOfMemory) × (passphrase : List ℕ) × HasPassphrase line passphrase)
    ⊎ ((r ≡ refusal.WrongPassphrase) × (passphrase : List ℕ) × HasPassphrase line passphrase
    × (HasRightHeaderHmac front passphrase → ⊥))

-- the text's passing ended early
abbrev pub ReleaseRefused : ScryptRefusal → List ℕ → List ℕ → HostState → HostState → Type 0
ReleaseRefused r passphrase front before after =
    RefusesDuringText r (2 ^ 60 + 32) 4128 (released_text_of_header_and_rest passphrase front) (released_text_of_header_and_rest passphrase front) before after

-- the output could not be opened, the text's passing ended early, or all was released and is damaged
abbrev pub DecryptRefusedFromOutputOn : ScryptRefusal → List ℕ → List ℕ → Option Text → HostState → HostState → Type 0
DecryptRefusedFromOutputOn r passphrase front outfile before after =
    ((r ≡ refusal.OutputFault) × (after ≡ after_ask_output outfile before))
    ⊎ ReleaseRefused r passphrase front (after_open_output outfile before) after
    ⊎ ((r ≡ refusal.Damaged) × IsDamaged passphrase front outfile before after)

-- a step with this result, and the host before and after it: the text was written of which the file is an encryption;
-- or the run was refused from the output's opening on
abbrev pub DecryptionEnds : {A : Type 0} → Result A ScryptRefusal → List ℕ → List ℕ → Option Text → HostState → HostState → Type 0
DecryptionEnds result passphrase front outfile before after = MatchResult result
    (λ _. Decrypted passphrase front outfile before after)
    (λ r. DecryptRefusedFromOutputOn r passphrase front outfile before after)
