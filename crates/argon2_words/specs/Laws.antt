-- What is proved of the definitions of argon2's words alone.
use Rattle.std.specs.Prelude.{List, Result}
use Rattle.command_words.specs.Answer.{◌>>=◌}
use Rattle.argon2_words.specs.Items.{Item}
use Rattle.argon2_words.specs.Settings.{settings_after, with_item}
use Rattle.argon2_words.specs.declared.refusal.Argon2Refusal.{Argon2Refusal}
use Rattle.argon2_words.specs.declared.settings.Settings.{Settings}

-- the settings after items and then one item more
abbrev pub settings_with_last_item : Settings → List Item → Item → Result Settings Argon2Refusal
settings_with_last_item s xs x = do
  before ← settings_after s xs
  with_item before x
