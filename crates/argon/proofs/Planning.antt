-- The plan of a segment, entry by entry.
use Rattle.std.proofs.Common.{◌≡◌, ◌≢◌, ℕ, ◌+◌, ◌*◌, ◌/◌, ◌<◌, ◌≤◌, inl, inr, List, length, set, refl, sym, ap, ◌∙◌, arith}
use Rattle.std.proofs.lemmas.List.{get_or-set_same, get_or-set_other}
use Rattle.std.proofs.lemmas.Bool.Decides.{eqb_tells}
use Rattle.std.proofs.lemmas.Bool.{cases_lt}
use Rattle.argon.specs.Counts.{first_index}
use Rattle.argon.specs.Parameters.{Parameters, segment_len}
use Rattle.argon.specs.Plan.{independent_reference_place}
use Rattle.argon.specs.Inside.Planning.{AreReferencesPlanned, PlansPartOfReferences, reference_place_by_segment}
use Rattle.argon.specs.Reference.{address_block, reference_number}
use Rattle.argon.specs.Inside.Segment.{IsSegmentOfParameters, index_in_segment_after_parts}
use Rattle.argon.proofs.Progress.{part_of, first_index-le}
use Rattle.argon.specs.declared.places.Place.{Place}
use Rattle.argon.specs.declared.segment.Segment.{Segment}

-- one more entry
pub plan_more : (at : Segment) (addresses : List ℕ) (old now : List Place) (from index : ℕ) (p : Place)
    → index < length now → from ≤ index → p ≡ reference_place_by_segment at index addresses
    → PlansPartOfReferences at addresses old now from index → PlansPartOfReferences at addresses old (set now index p) from (index + 1)
plan_more at addresses old now from index p fits le e plan = record {
  planned = λ k low high. elim (eqb_tells k index) [
    | inl same ↦ rw same.1 (get_or-set_same now index p _ fits ∙ e)
    | inr ne ↦ get_or-set_other now index k p _ ne.1 ∙ plan.planned k low (let n = ne.1 in omega arith)
  ];
  before = λ k low.
      let ne : k ≢ index = omega arith in
      get_or-set_other now index k p _ ne ∙ plan.before k low;
}

plan_is_by : (c : Parameters) (lanes len : ℕ) → c.lanes ≡ lanes → segment_len c ≡ len → (at : Segment) → at.lanes ≡ lanes → at.len ≡ len
    → (index : ℕ) (addresses : List ℕ) → addresses ≡ address_block c at.pass at.lane at.slice (index / 128 + 1)
    → reference_place_by_segment at index addresses ≡ independent_reference_place c at.pass at.lane at.slice index
unfolding reference_number
plan_is_by c lanes len el es at al an index addresses e = rw (e, al, an, ← el, ← es) refl

-- what the segment and its address block give is what the parameters and the position give
pub plan_is : (c : Parameters) (at : Segment) (index : ℕ) (addresses : List ℕ) → IsSegmentOfParameters c at
    → addresses ≡ address_block c at.pass at.lane at.slice (index / 128 + 1)
    → reference_place_by_segment at index addresses ≡ independent_reference_place c at.pass at.lane at.slice index
plan_is c at index addresses is_of e = plan_is_by c at.lanes at.len is_of.lanes is_of.len at refl refl index addresses e

-- one more part of a segment
pub part_more : (c : Parameters) (at : Segment) (old now new : List Place) (part : ℕ) (addresses : List ℕ) → IsSegmentOfParameters c at → 2 ≤ at.len
    → 128 * part < at.len → addresses ≡ address_block c at.pass at.lane at.slice (part + 1)
    → PlansPartOfReferences at addresses now new (index_in_segment_after_parts at part) (index_in_segment_after_parts at (part + 1))
    → AreReferencesPlanned c at old now (index_in_segment_after_parts at part) → AreReferencesPlanned c at old new (index_in_segment_after_parts at (part + 1))
part_more c at old now new part addresses is_of long parts made plan done = record {
  planned = λ index low high. elim (cases_lt index (index_in_segment_after_parts at part)) [
    | inl lt ↦ plan.before index lt ∙ done.planned index low lt
    | inr le ↦
        let p = part_of (first_index at.pass at.slice) at.len part index (first_index-le at.pass at.slice) parts le high in
        let word : addresses ≡ address_block c at.pass at.lane at.slice (index / 128 + 1) =
        made ∙ ap (λ (x : ℕ). address_block c at.pass at.lane at.slice (x + 1)) (sym p.0) in
        plan.planned index le high ∙ plan_is c at index addresses is_of word
  ];
  kept = λ index low. plan.before index (omega arith) ∙ done.kept index low;
}
