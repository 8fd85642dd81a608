-- What argon2's words ask for.
use Rattle.std.specs.Prelude.{Bool, true, false, List, [], ◌∷◌, Result, Ok, Err, codes, if◌then◌else◌}
use Rattle.std.specs.Str.{bytes_eq}
use Rattle.host.specs.HostState.{Text}
use Rattle.command_words.specs.Answer.{◌>>=◌}
use Rattle.argon2_words.specs.Items.{items}
use Rattle.argon2_words.specs.Settings.{defaults, settings_after}
use Rattle.argon2_words.specs.declared.items.Form.{Form}
use Rattle.argon2_words.specs.declared.items.Form.TheVariants.{Encoded, Hex}
use Rattle.argon2_words.specs.declared.refusal.Argon2Refusal.{Argon2Refusal}
use Rattle.argon2_words.specs.declared.refusal.Argon2Refusal.TheVariants as refusal
use Rattle.argon2_words.specs.declared.settings.Settings.{Settings}

-- what argon2's words ask for: the salt, what the items set, and the form of the output
pub record Request : Type 0 where
  pub salt : Text
  pub settings : Settings
  pub form : Form

-- the salt, which is the first word, whatever it is, except -h (A1)
abbrev pub salt_of_first_word : Text → Result Text Argon2Refusal
salt_of_first_word word = if bytes_eq word (codes "-h") then Err refusal.Usage else Ok word

-- the form that is asked for, by whether -e and -r stand among the items: exactly one of them is needed (A5)
abbrev pub chosen_output_form : Bool → Bool → Result Form Argon2Refusal
chosen_output_form true false = Ok Encoded
chosen_output_form false true = Ok Hex
chosen_output_form _ _ = Err refusal.OneForm

-- what argon2's words ask for, or the first refusal in the order of the lines
abbrev pub argon2_request : List Text → Result Request Argon2Refusal
argon2_request [] = Err refusal.Usage
argon2_request (word ∷ words) = do
  salt ← salt_of_first_word word
  settings ← settings_after defaults (items words)
  form ← chosen_output_form settings.encoded settings.hex
  Ok (record { salt = salt; settings = settings; form = form })
