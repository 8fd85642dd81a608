-- What argon2-verify's words ask for: options with their values, and then the file.
use Rattle.std.specs.Prelude.{◌^◌, ◌==◌, Bool, false, List, [], ◌∷◌, Result, Ok, Err, codes, ok_or, option_map, if◌then◌else◌}
use Rattle.std.specs.Str.{bytes_eq}
use Rattle.host.specs.HostState.{Text}
use Rattle.command_words.specs.Answer.{◌>>=◌}
use Rattle.command_words.specs.Number.{number_in}
use Rattle.argon2_verify.specs.declared.request.Limits.{Limits}
use Rattle.argon2_verify.specs.declared.request.Request.{Request as CodeRequest}
use Rattle.argon2_verify.specs.declared.refusal.VerifyRefusal.{VerifyRefusal}
use Rattle.argon2_verify.specs.declared.refusal.VerifyRefusal.TheVariants as refusal

-- the file that holds the hash, and the most that the hash may take
pub record Request : Type 0 where
  pub file : Text
  pub limits : Limits

-- the limits where no option sets them, which are those of argon2: 2^22 KiB, and 2^33 block functions
abbrev pub default_limits : Limits
default_limits = record { max_kib = 2 ^ 22; max_ops = 2 ^ 33 }

-- the limits after an option and its value: --maxmem takes 1 to 2^32 - 1, --maxops 1 to 2^63 - 1
abbrev pub with_option : Limits → Text → Text → Result Limits VerifyRefusal
with_option l name value =
    if bytes_eq name (codes "--maxmem") then ok_or (option_map (λ n. record l { max_kib = n }) (number_in 1 (2 ^ 32) value)) refusal.BadNumber
    else if bytes_eq name (codes "--maxops") then ok_or (option_map (λ n. record l { max_ops = n }) (number_in 1 (2 ^ 63) value)) refusal.BadNumber
    else Err refusal.Usage

-- whether a word begins with `-`
abbrev pub begins_with_dash : Text → Bool
begins_with_dash [] = false
begins_with_dash (byte ∷ bytes) = byte == 45

-- the request with this last word: it is the file, unless it begins with `-`
abbrev pub request_of_file : Limits → Text → Result Request VerifyRefusal
request_of_file l word = if begins_with_dash word then Err refusal.Usage else Ok (record { file = word; limits = l })

-- what words ask for after others that set these limits
abbrev pub request_after : Limits → List Text → Result Request VerifyRefusal
request_after l [] = Err refusal.Usage
request_after l (word ∷ []) = request_of_file l word
request_after l (name ∷ value ∷ words) = do
  next ← with_option l name value
  request_after next words

-- what argon2-verify's words ask for, or the first refusal from the left
abbrev pub verify_request : List Text → Result Request VerifyRefusal
verify_request words = request_after default_limits words

-- a request of the code, its file as a text
abbrev pub verify_request_view : CodeRequest → Request
verify_request_view q = record { file = q.file.now; limits = q.limits }
