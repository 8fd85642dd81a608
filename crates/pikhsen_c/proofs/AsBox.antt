-- A full handle owns what a box at the same types owns.
use mathlib.Core.Path.{◌≡◌, refl}
use mathlib.Core.Bool.{true, false≢true}
use Rattle.std.specs.Prelude.{Option, Some, None, is_some}
use mir.Syntax.{Dict, impl, tnil, tcons, dnil}
use mir.Raw.{raw}
use mathlib.Core.List.{[], ◌∷◌}
use denote.Exit.{no}
use denote.RattleType.{RattleType}
use denote.Param.{arg, layout}
use denote.Param.Laws.{Laws, arg_laws}
use Rattle.std_alloc.proofs.BoxSteps.Form.{Bx}
use Rattle.std_heap.specs.contracts.Global as Heap
use Rattle.std_heap.specs.contracts.GlobalAllocator.TheImpl.{ghosts, dict}
use Rattle.std_heap.proofs.Global.TheLaws as heap
use Rattle.pikhsen_c.specs.contracts.stream.StreamState as running
use Rattle.pikhsen_c.proofs.stream.StreamState.TheLaws as running'

-- a type as a call passes it
abbrev pub X : RattleType
X = arg (raw (layout running.the_row)) no running.the_row

abbrev pub A : RattleType
A = arg (raw (layout Heap.the_row)) no Heap.the_row

abbrev pub LX : Laws X
LX = arg_laws (raw (layout running.the_row)) no running.the_row running'.the_row_laws refl

abbrev pub LA : Laws A
LA = arg_laws (raw (layout Heap.the_row)) no Heap.the_row heap.the_row_laws refl

-- neither a `StreamState` nor the heap's handle has anything to do when it is dropped
abbrev pub nothing-to-drop : RattleType → Dict
nothing-to-drop T = impl ("pikhsen_c::Destruct++none::drop" ∷ []) (tcons (layout T) tnil) dnil

abbrev pub E : Bx
E = record { row = X; laws = LX; al = record { row = A; laws = LA; g = ghosts; d = dict; drops = nothing-to-drop A } }

-- what a full handle has
pub record Full {X : Type 0} (m : Option X) : Type 0 where
  pub value : X
  pub same : m ≡ Some value

pub held : {X : Type 0} (m : Option X) → is_some m ≡ true → Full m
held (Some x) full = record { value = x; same = refl }
held None full = absurd (false≢true full)
