-- What each number says, in the words of include/pikhsen.h; and how a text is written.
use Rattle.std.specs.Prelude.{◌≡◌, ◌==◌, ◌+◌, ◌++◌, ◌∷◌, ℕ, List, [], codes, drop, take, if◌then◌else◌}

-- the sentence of a number, or that it has none
abbrev pub sentence_of : ℕ → List ℕ
sentence_of status =
    if status == 0 then codes "the call did its work"
    else if status == 1 then codes "Argon2: passes are not 1 to 2^32-1"
    else if status == 2 then codes "Argon2: lanes are not 1 to 2^24-1"
    else if status == 3 then codes "Argon2: memory is not 8 * lanes to 2^32-1 KiB"
    else if status == 4 then codes "Argon2: the tag is not 4 to 4096 bytes long"
    else if status == 5 then codes "Argon2: the salt is not 8 to 255 bytes long"
    else if status == 6 then codes "Argon2: the password is 2^32 bytes or longer"
    else if status == 7 then codes "more memory is needed than the limit allows"
    else if status == 8 then codes "more work is needed than the limit allows"
    else if status == 9 then codes "memory was refused"
    else if status == 10 then codes "Argon2: the kind is not 0, 1 or 2"
    else if status == 11 then codes "Argon2: the version is not 0x10 or 0x13"
    else if status == 12 then codes "Argon2: the secret or the data is 2^32 bytes or longer"
    else if status == 13 then codes "out is not as long as the function needs"
    else if status == 14 then codes "the text is not an encoded hash"
    else if status == 15 then codes "the text is an encoded hash with a value out of range"
    else if status == 16 then codes "the password is not that of the text"
    else if status == 17 then codes "scrypt: log2 N is not 1 to 63"
    else if status == 18 then codes "scrypt: r or p is below 1"
    else if status == 19 then codes "scrypt: r * p is 2^30 or more"
    else if status == 20 then codes "scrypt: keep is not a power of two from 1 to 1024"
    else if status == 21 then codes "scrypt: keep is above N"
    else if status == 22 then codes "file: it does not begin with \"scrypt\""
    else if status == 23 then codes "file: the version of its format is not 0"
    else if status == 24 then codes "file: the checksum of its header is wrong"
    else if status == 25 then codes "file: its costs are out of range"
    else if status == 26 then codes "file: it is shorter than 96 bytes, or than 64 to read its costs alone"
    else if status == 27 then codes "file: the passphrase is not the file's"
    else if status == 28 then codes "file: it is damaged, or cut short, after its first 96 bytes"
    else if status == 29 then codes "file: the text is 2^60 bytes or longer"
    else if status == 30 then codes "file: the salt is not 32 bytes long"
    else if status == 31 then codes "text: its version is not 16 or 19"
    else if status == 32 then codes "text: its passes are not 1 to 2^32-1"
    else if status == 33 then codes "text: its lanes are not 1 to 2^24-1"
    else if status == 34 then codes "text: its memory is not 8 * lanes to 2^32-1 KiB"
    else if status == 35 then codes "text: its tag is not 4 to 4096 bytes long"
    else if status == 36 then codes "text: its salt is not 8 to 255 bytes long"
    else if status == 37 then codes "file: the stream runs already, or does not run in this direction"
    else codes "unknown number"

-- a text stands at the front of a buffer, a byte 0 is after it, and what is after that is as it was
pub record IsWrittenAsCString (bytes : List ℕ) (len : ℕ) (old new : List ℕ) : Type 0 where
  pub text : take len new ≡ bytes
  pub end : take (len + 1) new ≡ bytes ++ 0 ∷ []
  pub rest : drop (len + 1) new ≡ drop (len + 1) old
