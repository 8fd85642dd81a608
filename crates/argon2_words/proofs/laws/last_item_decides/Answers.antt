use Rattle.std.proofs.Common.{◌≡◌, ◌++◌, ◌∷◌, [], List, Option, Some, None, Result, Ok, Err, ap, refl, subst}
use Rattle.std.proofs.lemmas.Option.{none-some}
use Rattle.std.specs.Prelude.{◌^◌, option_map, unwrap_or}
use Rattle.host.specs.HostState.{Text}
use Rattle.command_words.specs.Answer.{◌>>=◌}
use Rattle.argon2_words.specs.Items.{Item}
use Rattle.argon2_words.specs.Laws.{settings_with_last_item}
use Rattle.command_words.specs.Number.{number_in}
use Rattle.argon2_words.specs.Settings.{settings_after, with_item, with_value, count_from_word, power_of_two_from_word, version_named}
use Rattle.argon2_words.specs.declared.items.OptionName.{OptionName}
use Rattle.argon2_words.specs.declared.items.OptionName.TheVariants as option
use Rattle.argon2_words.specs.declared.refusal.Argon2Refusal.{Argon2Refusal}
use Rattle.argon2_words.specs.declared.settings.Settings.{Settings}
use Rattle.argon2_words.proofs.laws.last_item_decides.Goals as goal

-- one item alone
alone : (answer : Result Settings Argon2Refusal) → (answer >>= λ next. settings_after next []) ≡ answer
alone (Ok settings) = refl
alone (Err fault) = refl

-- an item before the others
after : (answer : Result Settings Argon2Refusal) (items : List Item) (item : Item)
    → ((settings : Settings) → settings_after settings (items ++ item ∷ []) ≡ settings_with_last_item settings items item)
    → (answer >>= λ next. settings_after next (items ++ item ∷ []))
    ≡ ((answer >>= λ next. settings_after next items) >>= λ before. with_item before item)
after (Ok settings) items item decides = decides settings
after (Err fault) items item decides = refl

last : (settings : Settings) (items : List Item) (item : Item)
    → settings_after settings (items ++ item ∷ []) ≡ settings_with_last_item settings items item
last settings [] item = alone (with_item settings item)
last settings (first ∷ items) item = after (with_item settings first) items item (λ next. last next items item)

-- a value in the place of one that was put before
replaced : {A : Type 0} (put : Settings → A → Settings) (settings given : Settings) (before value : Option A)
    → ((one other : A) → put (put settings one) other ≡ put settings other)
    → option_map (put settings) before ≡ Some given → option_map (put given) value ≡ option_map (put settings) value
replaced put settings given None value same is = absurd (none-some given is)
replaced put settings given (Some one) None same is = refl
replaced put settings given (Some one) (Some other) same is =
    subst (λ mid. Some (put mid other) ≡ Some (put settings other)) (ap (λ o. unwrap_or o settings) is) (ap Some (same one other))

again : (settings given : Settings) (name : OptionName) (before value : Text) → with_value settings name before ≡ Some given
    → with_value given name value ≡ with_value settings name value
again s given option.Passes before value is =
    replaced (λ s n. record s { passes = n }) s given (count_from_word before) (count_from_word value) (λ _ _. refl) is
again s given option.LogMemory before value is =
    replaced (λ s n. record s { memory_kib = n }) s given (power_of_two_from_word before) (power_of_two_from_word value) (λ _ _. refl) is
again s given option.Memory before value is =
    replaced (λ s n. record s { memory_kib = n }) s given (count_from_word before) (count_from_word value) (λ _ _. refl) is
again s given option.Lanes before value is =
    replaced (λ s n. record s { lanes = n }) s given (count_from_word before) (count_from_word value) (λ _ _. refl) is
again s given option.TagLength before value is =
    replaced (λ s n. record s { tag_length = n }) s given (count_from_word before) (count_from_word value) (λ _ _. refl) is
again s given option.Version before value is =
    replaced (λ s v. record s { version = v }) s given (version_named before) (version_named value) (λ _ _. refl) is
again s given option.MaxMemory before value is =
    replaced (λ s n. record s { max_memory_kib = n }) s given (number_in 1 (2 ^ 32) before) (number_in 1 (2 ^ 32) value) (λ _ _. refl) is
again s given option.MaxOps before value is =
    replaced (λ s n. record s { max_ops = n }) s given (number_in 1 (2 ^ 63) before) (number_in 1 (2 ^ 63) value) (λ _ _. refl) is

pub returns : goal.returns
returns c = record { last = last; again = again }
