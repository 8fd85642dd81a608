-- Steps one after another, each of which finds a value or is refused: the first refusal decides.
use Rattle.std.specs.Prelude.{Result, Ok, Err}

infixl 10 ◌>>=◌
-- the answer of a next step, which f makes of the value that was found; a refusal stays
abbrev pub ◌>>=◌ : {A B R : Type 0} → Result A R → (A → Result B R) → Result B R
(Ok x) >>= f = f x
(Err r) >>= f = Err r

-- an answer with what `f` makes of its value; a refusal stays
abbrev pub map_ok : {A B R : Type 0} → (A → B) → Result A R → Result B R
map_ok f (Ok x) = Ok (f x)
map_ok f (Err r) = Err r
