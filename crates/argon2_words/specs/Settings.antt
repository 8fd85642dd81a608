-- What the items of argon2's words set: each setting has the value of its last item, and the first faulty item
-- decides.
use Rattle.std.specs.Prelude.{ℕ, ◌^◌, true, false, List, [], ◌∷◌, Option, Some, None, Result, Ok, Err, codes, ok_or, option_map, if◌then◌else◌}
use Rattle.std.specs.Str.{bytes_eq}
use Rattle.argon.specs.declared.kind.Kind.TheVariants.{I}
use Rattle.host.specs.HostState.{Text}
use Rattle.command_words.specs.Answer.{◌>>=◌}
use Rattle.command_words.specs.Number.{number_in}
use Rattle.argon2_words.specs.Items as item
use Rattle.argon2_words.specs.Items.{Item}
use Rattle.argon2_words.specs.declared.items.OptionName.{OptionName}
use Rattle.argon2_words.specs.declared.items.OptionName.TheVariants as option
use Rattle.argon2_words.specs.declared.items.Form.TheVariants.{Encoded, Hex}
use Rattle.argon2_words.specs.declared.refusal.Argon2Refusal.{Argon2Refusal}
use Rattle.argon2_words.specs.declared.refusal.Argon2Refusal.TheVariants as refusal
use Rattle.argon2_words.specs.declared.settings.Version.{Version}
use Rattle.argon2_words.specs.declared.settings.Version.TheVariants.{V10, V13}
use Rattle.argon2_words.specs.declared.settings.Settings.{Settings}

-- ---- values

-- the value of -t, -k, -p or -l: 0 to 2^32 - 1; the ranges of RFC 9106, 3.1 are tested later
abbrev pub count_from_word : Text → Option ℕ
count_from_word text = number_in 0 (2 ^ 32) text

-- the value of -m, as KiB: 2^n for a number word n from 1 to 31. The reference program (its run.c) takes 32 too, for
-- 2^32 - 1 KiB, and reads the number by strtoul, which takes more than digits
abbrev pub power_of_two_from_word : Text → Option ℕ
power_of_two_from_word text = option_map (λ n. 2 ^ n) (number_in 1 32 text)

-- the version that the value of -v names, in hexadecimal: 10 or 13
abbrev pub version_named : Text → Option Version
version_named text =
    if bytes_eq text (codes "10") then Some V10
    else if bytes_eq text (codes "13") then Some V13
    else None

-- v, the number of a version: 0x13 (RFC 9106, 3.1), and 0x10, which was before it
abbrev pub version_number : Version → ℕ
version_number V10 = 0x10
version_number V13 = 0x13

-- ---- what an item sets

-- the settings after an option with its value, if the option takes that value; --maxmem takes 1 to 2^32 - 1, --maxops
-- 1 to 2^63 - 1
abbrev pub with_value : Settings → OptionName → Text → Option Settings
with_value s option.Passes text = option_map (λ n. record s { passes = n }) (count_from_word text)
with_value s option.LogMemory text = option_map (λ n. record s { memory_kib = n }) (power_of_two_from_word text)
with_value s option.Memory text = option_map (λ n. record s { memory_kib = n }) (count_from_word text)
with_value s option.Lanes text = option_map (λ n. record s { lanes = n }) (count_from_word text)
with_value s option.TagLength text = option_map (λ n. record s { tag_length = n }) (count_from_word text)
with_value s option.Version text = option_map (λ v. record s { version = v }) (version_named text)
with_value s option.MaxMemory text = option_map (λ n. record s { max_memory_kib = n }) (number_in 1 (2 ^ 32) text)
with_value s option.MaxOps text = option_map (λ n. record s { max_ops = n }) (number_in 1 (2 ^ 63) text)

-- the settings after an item, or the refusal of a faulty one
abbrev pub with_item : Settings → Item → Result Settings Argon2Refusal
with_item s (item.kind k) = Ok (record s { kind = k })
with_item s (item.form Encoded) = Ok (record s { encoded = true })
with_item s (item.form Hex) = Ok (record s { hex = true })
with_item s item.help = Err refusal.Usage
with_item s item.unknown_word = Err refusal.UnknownWord
with_item s item.missing_value = Err refusal.MissingValue
with_item s (item.valued name text) = ok_or (with_value s name text) refusal.BadNumber

-- the settings after items from the left: each item sets its value anew, and the first faulty one decides
abbrev pub settings_after : Settings → List Item → Result Settings Argon2Refusal
settings_after s [] = Ok s
settings_after s (x ∷ xs) = do
  next ← with_item s x
  settings_after next xs

-- the settings where no item sets them: Argon2i, three passes over 2^12 KiB in one lane, a tag of 32 bytes, version
-- 0x13, at most 2^22 KiB and 2^33 block functions, no form of output
abbrev pub defaults : Settings
defaults = record {
  kind = I;
  passes = 3;
  memory_kib = 2 ^ 12;
  lanes = 1;
  tag_length = 32;
  version = V13;
  max_memory_kib = 2 ^ 22;
  max_ops = 2 ^ 33;
  encoded = false;
  hex = false;
}
