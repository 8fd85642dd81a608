-- The command line of scrypt as it is given to clap: three subcommands, options of one value, the flag -P, and the
-- files.
use Rattle.std.specs.Prelude.{◌≡◌, ℕ, false, true, List, [], ◌∷◌, Some, codes, fold}
use Rattle.clap.specs.Words.{App, Rule, Text, app_of, new_app, new_rule, with_rule, with_subcommand}
use Rattle.clap.specs.declared.builder.action.ArgAction.TheVariants.{SetTrue}
use Rattle.clap.specs.declared.builder.command.Command.{Command}
use Rattle.clap.specs.declared.builder.command.Command.TheViews.{out-Command as fields_of}

-- an option `--name VALUE`
abbrev pub long_option : Text → Rule
long_option name = record (new_rule name) { long = Some name }

-- an option `-c VALUE`, under a name; c is the number of its character: 77 M, 80 P, 112 p, 114 r
abbrev pub short_option : Text → ℕ → Rule
short_option name c = record (new_rule name) { short = Some c }

-- the flag `-P`, which takes no value
abbrev pub stdin_flag : Rule
stdin_flag = record (new_rule (codes "P")) { short = Some 80; action = Some SetTrue }

-- the arguments that enc and dec both take; the last two are files
abbrev pub enc_and_dec_arguments : List Rule
enc_and_dec_arguments =
    short_option (codes "M") 77 ∷ long_option (codes "maxops") ∷ long_option (codes "keep") ∷ stdin_flag
    ∷ long_option (codes "passphrase") ∷ new_rule (codes "infile") ∷ new_rule (codes "outfile") ∷ []

-- the subcommand enc, which takes costs and a salt besides what dec takes
abbrev pub app_of_enc_subcommand : App
app_of_enc_subcommand = fold with_rule (new_app (codes "enc")) (
    long_option (codes "logN") ∷ short_option (codes "r") 114 ∷ short_option (codes "p") 112 ∷ long_option (codes "salt")
    ∷ enc_and_dec_arguments)

-- the subcommand dec
abbrev pub app_of_dec_subcommand : App
app_of_dec_subcommand = fold with_rule (new_app (codes "dec")) enc_and_dec_arguments

-- the subcommand info, which takes a file alone
abbrev pub app_of_info_subcommand : App
app_of_info_subcommand = with_rule (new_app (codes "info")) (new_rule (codes "infile"))

-- the command scrypt with its three subcommands
abbrev pub app_with_subcommands : App
app_with_subcommands = with_subcommand (with_subcommand (with_subcommand (new_app (codes "scrypt")) app_of_enc_subcommand.top) app_of_dec_subcommand.top) app_of_info_subcommand.top

-- the command scrypt, whose words come without the program's name
abbrev pub scrypt_app : App
scrypt_app = record app_with_subcommands { top = record (app_with_subcommands.top) { no_binary_name = true } }

-- clap reads the command as `app`, and no argument of it is global
pub record IsCommandForApp (app : App) (c : Command) : Type 0 where
  pub shape : app_of c ≡ app
  pub local : (fields_of c).has_globals ≡ false
