-- Faults of base64.
use Rattle.std.specs.Prelude.{◌≢◌, ℕ, Bool, List, ⊤, true, false, Result, Err}
use Rattle.argon_text.specs.Base64.{is_base64}
use Rattle.argon_text.specs.declared.fault.ReadFault.{ReadFault}
use Rattle.argon_text.specs.declared.fault.ReadFault.TheVariants.{NotInGrammar, OutOfRange, OutOfMemory}

-- why base64 isn't decoded
abbrev pub IsBase64Fault : List ℕ → ReadFault → Type 0
IsBase64Fault s NotInGrammar = is_base64 s ≢ true
IsBase64Fault s OutOfRange = ⊥
IsBase64Fault s OutOfMemory = ⊤

-- whether memory was granted, by what became of symbols
abbrev pub had_memory : {A : Type 0} → Result A ReadFault → Bool
had_memory (Err OutOfMemory) = false
had_memory result = true
