use Rattle.std.proofs.Common.{◌*◌, ◌%◌, ◌<◌, ◌≤◌, ◌∙◌, arith}
use Rattle.std.proofs.Math.Nat.{mod-add-mod, mod-lt}
use Rattle.argon.specs.Inside.Places.{reference_set_start, reference_set_len}
use Rattle.argon.specs.Reference.{relative_place}
use Rattle.argon.proofs.ReferenceSet.{named_number, reference_set_some, reference_set_short}
use Rattle.argon.proofs.places.reference_column.Goals as goal

pub wrapped-requires : goal.wrapped-requires
wrapped-requires c =
    let a = c.args in
    let short : reference_set_len a.segment_len a.pass a.slice a.index a.is_own ≤ 4 * a.segment_len = reference_set_short a.segment_len a.pass a.slice a.index a.is_own c.requires.slices c.requires.indices in
    let start : reference_set_start a.segment_len a.pass a.slice % (4 * a.segment_len) < 4 * a.segment_len = mod-lt (reference_set_start a.segment_len a.pass a.slice) (omega arith) in
    omega (arith, c.reference_set_start-start.ensures.value, c.relative_place-place.ensures.within, c.reference_set_len.ensures.value)

pub returns-clause-value : goal.returns-clause-value
returns-clause-value c =
    let a = c.args in
    let some = reference_set_some a.segment_len a.pass a.slice a.index a.is_own c.requires.long c.requires.first in
    rw (named_number a.segment_len a.pass a.slice a.index a.is_own a.j1 c.requires.slices some) (c.wrapped.ensures.value
    ∙ rw (c.reference_set_start-start.ensures.value, c.relative_place-place.ensures.value, c.reference_set_len.ensures.value)
    (mod-add-mod (reference_set_start a.segment_len a.pass a.slice) (4 * a.segment_len) (relative_place (reference_set_len a.segment_len a.pass a.slice a.index a.is_own) a.j1)))

pub returns-clause-within : goal.returns-clause-within
returns-clause-within c = rw c.wrapped.ensures.value (mod-lt _ (omega arith))
