-- What both walks over `Count` share. A `Count` is a struct of one `()`: the machine keeps no count, and the
-- count that contracts see is a ghost field, which whoever makes one picks.
use mathlib.Core.Path.{refl}
use mathlib.Core.List.{[], ◌∷◌}
use Prim.Native.Nat.{ℕ}
use seplogic.Ra.Ura.{Ura}
use base.Logic.{ent, emp}
use mir.Val.{Val, vcons, vnil, vstruct, vunit}
use types.Logic.{Logic, sem}
use denote.Shadow.{makes_shadow}
use Rattle.counter.specs.contracts.Count.{the_row}

-- the machine's value of every `Count`
abbrev pub stored : Val
stored = vstruct (vcons vunit vnil)

-- what a `Count` owns at any count is had for nothing, since no part of it is memory: the first argument says
-- so of each part, and the second shows that the fields are the stored value's and that the view is the count
pub for_nothing : {M : Type 1} {𝓤 : Ura M} (𝓛 : Logic 𝓤) (number : ℕ)
    → ent 𝓤 (emp 𝓤) (sem 𝓛 (the_row.own_val number (stored ∷ [])))
for_nothing 𝓛 number =
    makes_shadow 𝓛 (the_row.own_val number (stored ∷ []))
    (((λ parts. (tt, (tt, tt))), tt), (λ same. tt))
    ((((vunit ∷ [], tt), (refl, (refl, tt))), tt), ((refl, tt), tt))
