use Rattle.std.proofs.Common.{◌≡◌, map, string_bytes}
use Rattle.argon2_words.specs.Items.{items}
use Rattle.argon2_words.specs.ItemView.{items_left}
use Rattle.argon2_words.specs.Settings.{defaults, settings_after}
use Rattle.argon2_words.proofs.settings.read_settings.Given as goal

-- the items that are left decide on, from what has been set
abbrev pub invariant-loop-item : goal.invariant-loop-item
invariant-loop-item l =
    let all = items (map string_bytes l.words) in
    let left = items_left l.item-iterator in
    record { set : settings_after defaults all ≡ settings_after l.settings left }
