-- What is read: the first line of the file, and then the password.
use Rattle.std.specs.Prelude.{◌≡◌, ◌⊎◌, ◌+◌, ◌<◌, ◌≤◌, ◌==◌, ◌||◌, ℕ, Bool, true, false, List, [], ◌∷◌, Option, Some, None, Result, Ok, Err, IsOk, length, min, nat_le, if◌then◌else◌}
use Rattle.host.specs.FirstLine.{is_line_end}
use Rattle.host.specs.HostState.{HostState, Text, after_ask_secret, after_open_input, after_pull, stdin_once}
use Rattle.argon2_verify.specs.Hash.{IsLineRefused}
use Rattle.argon2_verify.specs.declared.refusal.VerifyRefusal.{VerifyRefusal}
use Rattle.argon2_verify.specs.declared.refusal.VerifyRefusal.TheVariants as refusal

-- whether a byte ends the line of a hash: CR, LF, or 0, which stands behind a text in C
abbrev pub is_hash_end : ℕ → Bool
is_hash_end b = is_line_end b || b == 0

-- the first line of a file: its bytes before the first CR, LF or 0, or all where it has none
abbrev pub hash_line : List ℕ → List ℕ
hash_line [] = []
hash_line (b ∷ bytes) = if is_hash_end b then [] else b ∷ hash_line bytes

-- the password, which is the whole standard input, 0 to 4,096 bytes, or its refusal
abbrev pub password_in : Option (List ℕ) → Result (List ℕ) VerifyRefusal
password_in None = Err refusal.PasswordFault
password_in (Some bytes) = if nat_le 4097 (length bytes) then Err refusal.LongPassword else Ok bytes

-- the host once the file was opened and so many of its bytes were read
abbrev pub after_reading : Text → ℕ → HostState → HostState
after_reading file n s = after_pull n (after_open_input (Some file) s)

-- the host once the file was opened, and its first line with its end was read, but at most 8,192 bytes: nothing behind
-- them was asked for, so a pipe may stay open
abbrev pub after_file_read : Text → HostState → HostState
after_file_read file s = after_reading file (min (length s.input) (min 8192 (length (hash_line s.input) + 1))) s

-- the same, and standard input was asked for the password
abbrev pub after_password_asked : Text → HostState → HostState
after_password_asked file s = after_ask_secret stdin_once (after_file_read file s)

-- the password is refused: by its length; the host failed to give it; or memory for its hash was refused
abbrev pub IsPasswordRefused : Option (List ℕ) → VerifyRefusal → Type 0
IsPasswordRefused stdin r =
    (password_in stdin ≡ Err r) ⊎ (r ≡ refusal.PasswordFault) ⊎ ((r ≡ refusal.OutOfMemory) × IsOk (password_in stdin))

-- the file has this refusal: the host failed to open it, to tell whether it is standard input itself, or to give a byte
-- of its first line or its end, and fewer than 8,192 came; it is standard input itself, of which nothing is read; or
-- its first line is refused
abbrev pub IsFileRefused : Text → VerifyRefusal → HostState → HostState → Type 0
IsFileRefused file r before after =
    ((r ≡ refusal.FileFault) × ((after ≡ before)
    ⊎ ((n : ℕ) × (n < 8192) × (n ≤ length (hash_line before.input)) × (before.input_is_stdin ≡ true → n ≡ 0) × (after ≡ after_reading file n before))))
    ⊎ ((r ≡ refusal.FileIsStdin) × (before.input_is_stdin ≡ true) × (after ≡ after_reading file 0 before))
    ⊎ ((before.input_is_stdin ≡ false) × IsLineRefused (hash_line before.input) r × (after ≡ after_file_read file before))
