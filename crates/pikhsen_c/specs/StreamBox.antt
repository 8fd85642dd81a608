-- What a handle owns.
use Rattle.std.specs.Prelude.{Option, Some, None}
use base.Fml.{Fml, ftrue}
use denote.RattleType.{RattleType}
use denote.RawPtr.{Ptr}
use Rattle.std_alloc.specs.Box.Ownership.{box_owns}
use Rattle.std_heap.specs.declared.Global.{Global}
use Rattle.std_heap.specs.contracts.GlobalAllocator.TheImpl.{ghosts}

-- the handle of the heap, which is one value
abbrev heap : Global
heap = record { memory = record { seal = tt } }

-- the value at the pointer, with the right to free its block, as a box owns them; or nothing
abbrev pub owns_optional_box : (R : RattleType) → Ptr → Option R.Denot → Fml
owns_optional_box R p None = ftrue
owns_optional_box R p (Some x) = box_owns (ghosts.dealloc_token heap) R p x
