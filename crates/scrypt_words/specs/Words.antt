-- What the words of scrypt say, by clap's definition, before any rule of this program.
use Rattle.std.specs.Prelude.{Bool, false, List, [], ◌∷◌, Option, None, codes}
use Rattle.std.specs.Option.{option_map_or}
use Rattle.std.specs.Str.{bytes_eq}
use Rattle.clap.specs.Words.{Kinds, Row, fault_of, first_of as argument_value, found_of, rows_of, subcommand_of}
use Rattle.clap.specs.declared.parser.matches.ArgMatches.{ArgMatches}
use Rattle.host.specs.HostState.{Text}
use Rattle.scrypt_words.specs.CommandLine.{scrypt_app}

-- whether a flag is set: clap holds the word `true` for it
abbrev pub is_set : Text → List Row → Bool
is_set name rows = option_map_or (λ text. bytes_eq text (codes "true")) (argument_value name rows) false

-- what was found, where clap finds no fault in the words, and nothing where it finds one
abbrev pub unless_faulty : {A : Type 0} → Kinds → Option A → Option A
unless_faulty [] found = found
unless_faulty (kind ∷ kinds) found = None

-- the name of the subcommand and what its arguments have, if clap finds no fault in the words
abbrev pub scrypt_words : List Text → Option (Text × List Row)
scrypt_words words = unless_faulty (fault_of scrypt_app words) (subcommand_of scrypt_app words)

-- what contracts see of the code's matches
abbrev pub rows_of_arg_matches : ArgMatches → List Row
rows_of_arg_matches matches = rows_of (found_of matches)
