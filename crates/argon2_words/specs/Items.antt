-- The items of argon2's words after the salt.
use Rattle.std.specs.Prelude.{◌++◌, List, [], ◌∷◌, Option, Some, None, codes, if◌then◌else◌}
use Rattle.std.specs.Str.{bytes_eq}
use Rattle.argon.specs.declared.kind.Kind.{Kind}
use Rattle.argon.specs.declared.kind.Kind.TheVariants.{D, I, Id}
use Rattle.host.specs.HostState.{Text}
use Rattle.argon2_words.specs.declared.items.OptionName.{OptionName}
use Rattle.argon2_words.specs.declared.items.OptionName.TheVariants.{Passes, LogMemory, Memory, Lanes, TagLength, Version, MaxMemory, MaxOps}
use Rattle.argon2_words.specs.declared.items.Form.{Form}
use Rattle.argon2_words.specs.declared.items.Form.TheVariants.{Encoded, Hex}

-- an item: a flag that sets the type, a flag that sets the form of the output, -h, a word that is neither a flag nor
-- an option, an option with its value, or an option as the last word, which has no value
pub data Item : Type 0 where
  kind : Kind → Item
  form : Form → Item
  help : Item
  unknown_word : Item
  valued : OptionName → Text → Item
  missing_value : Item

-- the option that a word names, if it names one
abbrev pub option_of : Text → Option OptionName
option_of word =
    if bytes_eq word (codes "-t") then Some Passes
    else if bytes_eq word (codes "-m") then Some LogMemory
    else if bytes_eq word (codes "-k") then Some Memory
    else if bytes_eq word (codes "-p") then Some Lanes
    else if bytes_eq word (codes "-l") then Some TagLength
    else if bytes_eq word (codes "-v") then Some Version
    else if bytes_eq word (codes "--maxmem") then Some MaxMemory
    else if bytes_eq word (codes "--maxops") then Some MaxOps
    else None

-- the item of a word that names no option
abbrev pub item_of_flag : Text → Item
item_of_flag word =
    if bytes_eq word (codes "-d") then kind D
    else if bytes_eq word (codes "-i") then kind I
    else if bytes_eq word (codes "-id") then kind Id
    else if bytes_eq word (codes "-e") then form Encoded
    else if bytes_eq word (codes "-r") then form Hex
    else if bytes_eq word (codes "-h") then help
    else unknown_word

-- the item that a word makes by itself, where it names no option
abbrev pub flag_item_unless_option : Option OptionName → Text → List Item
flag_item_unless_option None word = item_of_flag word ∷ []
flag_item_unless_option (Some name) word = []

-- the items of the words, where the first word is the value of an option that came before them, if one is given
abbrev pub items_after_pending_option : Option OptionName → List Text → List Item
items_after_pending_option None [] = []
items_after_pending_option (Some name) [] = missing_value ∷ []
items_after_pending_option None (word ∷ words) = flag_item_unless_option (option_of word) word ++ items_after_pending_option (option_of word) words
items_after_pending_option (Some name) (word ∷ words) = valued name word ∷ items_after_pending_option None words

-- the items of the words after the salt, from the left
abbrev pub items : List Text → List Item
items words = items_after_pending_option None words
