-- The words of a process, as a system gives them.
use Rattle.std.specs.Prelude.{◌≡◌, ◌<◌, ℕ, List, [], ◌∷◌, drop, length, take, Option, None, Some, Result, Ok, Err, IsUtf8, ⊤}
use Rattle.host.specs.HostState.{Text}
use Rattle.tools.specs.declared.system.WordFault.{WordFault}
use Rattle.tools.specs.declared.system.WordFault.TheVariants as fault
use Rattle.tools.specs.declared.arguments.WordsFault.{WordsFault}
use Rattle.tools.specs.declared.arguments.WordsFault.TheVariants as words_fault

-- the first of some words
abbrev pub first_word : List Text → Option Text
first_word [] = None
first_word (word ∷ rest) = Some word

-- the word at a place, counted from 0
abbrev pub word_at : List Text → ℕ → Option Text
word_at words place = first_word (drop place words)

-- what a system gives of a word: all its bytes; or it says that the buffer is too short, or that there is no such word
abbrev pub GivesCommandLineWord : Option Text → Result ℕ WordFault → List ℕ → Type 0
GivesCommandLineWord None (Ok n) buf = ⊥
GivesCommandLineWord (Some word) (Ok n) buf = (n ≡ length word) × (take n buf ≡ word)
GivesCommandLineWord None (Err fault.Missing) buf = ⊤
GivesCommandLineWord (Some word) (Err fault.Missing) buf = ⊥
GivesCommandLineWord None (Err fault.TooLong) buf = ⊥
GivesCommandLineWord (Some word) (Err fault.TooLong) buf = length buf < length word

-- where the fault says that this word is no text, the word is there and is not UTF-8
abbrev pub IsNonUtf8WordIfNotText : WordsFault → Option Text → Type 0
IsNonUtf8WordIfNotText words_fault.OutOfMemory word = ⊤
IsNonUtf8WordIfNotText words_fault.NotText None = ⊥
IsNonUtf8WordIfNotText words_fault.NotText (Some word) = IsUtf8 word → ⊥

-- where a word is said to be no text, one of the words after the name of the process is not UTF-8
abbrev pub HasNonUtf8WordIfNotText : WordsFault → List Text → Type 0
HasNonUtf8WordIfNotText words_fault.OutOfMemory words = ⊤
HasNonUtf8WordIfNotText words_fault.NotText words = (place : ℕ) × (0 < place) × IsNonUtf8WordIfNotText words_fault.NotText (word_at words place)
