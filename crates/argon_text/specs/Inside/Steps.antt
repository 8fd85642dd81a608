-- What private functions find of a text.
use Rattle.std.specs.Prelude.{◌≡◌, ℕ, List, Option, Some, None}

-- what a function returned, seen by view, and the bytes that it left are what the step finds
abbrev pub Steps : {X Y : Type 0} → (X → Y) → Option X → List ℕ → Option (Y × List ℕ) → Type 0
Steps view None left step = step ≡ None
Steps view (Some x) left step = step ≡ Some (view x, left)
