-- What reading may answer.
use Rattle.std.specs.Prelude.{◌≡◌, ℕ, List, Result, Ok, Err, IfOk, IsErrOf, MatchResult}
use Rattle.argon_text.specs.Value.{IsEncodableValue, Value}
use Rattle.argon_text.specs.EncodedText.{IsEncodedTextOf}
use Rattle.argon_text.specs.Grammar.{HasWellFormedNumbers, IsEncodedText, IsEncodedTextInRange}
use Rattle.argon_text.specs.View.{value_of}
use Rattle.argon_text.specs.declared.encoded.Encoded.{Encoded}
use Rattle.argon_text.specs.declared.fault.ReadFault.{ReadFault}
use Rattle.argon_text.specs.declared.fault.ReadFault.TheVariants.{NotInGrammar, OutOfRange, OutOfMemory}

-- a fault, by the grammar and the ranges alone; memory is asked for once the numbers are read, and refused for no
-- other text
abbrev pub IsReadFaultOfText : List ℕ → ReadFault → Type 0
IsReadFaultOfText s NotInGrammar = IsEncodedText s → ⊥
IsReadFaultOfText s OutOfRange = IsEncodedText s × (IsEncodedTextInRange s → ⊥)
IsReadFaultOfText s OutOfMemory = HasWellFormedNumbers s

-- an answer
abbrev pub IsResultOfReading : List ℕ → Result Encoded ReadFault → Type 0
IsResultOfReading s (Ok e) = IsEncodableValue (value_of e) × IsEncodedTextOf (value_of e) s
IsResultOfReading s (Err f) = IsReadFaultOfText s f

-- with this result a text is read: it is a text of the value, each byte of it; or it is told that it is none, that a value is
-- out of range, or that memory was refused, of no text but one whose numbers have their form. A text of a value is read,
-- unless memory is refused
pub record ReadsText (s : List ℕ) (result : Result Encoded ReadFault) : Type 0 where
  pub found : IfOk result (λ e. IsEncodedTextOf (value_of e) s)
  pub value : IfOk result (λ e. IsEncodableValue (value_of e))
  pub not_in_grammar : IsErrOf result NotInGrammar → IsEncodedText s → ⊥
  pub out_of_range : IsErrOf result OutOfRange → IsEncodedText s × (IsEncodedTextInRange s → ⊥)
  pub out_of_memory : IsErrOf result OutOfMemory → HasWellFormedNumbers s
  pub again : (v : Value) → IsEncodableValue v → IsEncodedTextOf v s → MatchResult result (λ e. value_of e ≡ v) (λ f. f ≡ OutOfMemory)
