-- What contracts see of the code's items.
use Rattle.std.specs.Prelude.{List, map, string_bytes}
use Rattle.std.specs.Slice.Iter.{iter_rest}
use Rattle.argon2_words.specs.Items.{Item as Said, kind, form, help, unknown_word, valued, missing_value, items}
use Rattle.argon2_words.specs.declared.items.Item.{Item}
use Rattle.argon2_words.specs.declared.items.Item.TheVariants as item
use Rattle.argon2_words.specs.declared.items.Items.{Items}

-- an item, its value as a text
abbrev pub item_of : Item → Said
item_of (item.Kind k) = kind k
item_of (item.Form f) = form f
item_of item.Help = help
item_of item.UnknownWord = unknown_word
item_of (item.Valued name text) = valued name text.now
item_of item.MissingValue = missing_value

-- the items that are left
abbrev pub items_left : Items → List Said
items_left it = items (map string_bytes (iter_rest it.words))
