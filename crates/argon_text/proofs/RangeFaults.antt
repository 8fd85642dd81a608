-- The first part of a value that is out of range: where there is none, the value is in range; and it may be told by capped
-- numbers.
use Rattle.std.proofs.lemmas.Grind.{common_steps}
use Rattle.std.proofs.Common.{◌≡◌, ◌-◌, ◌*◌, ◌^◌, ◌<◌, ◌≤◌, ◌&&◌, ◌⊎◌, inl, inr, ℕ, arith, Bool, true, false, not, Option, Some, None, cond, length, refl, sym, lit<, IsSome, if◌then◌else◌}
use Rattle.std.proofs.lemmas.Bool.Decides.{leb_tells}
use Rattle.argon.specs.Range.{is_between, is_version}
use Rattle.argon_text.specs.Inside.Capped.{IsCapped}
use Rattle.argon_text.specs.Settings.{first_field_range_fault, first_encoded_range_fault}
use Rattle.argon_text.specs.Value.{Value, is_in_range}
use Rattle.argon_text.specs.declared.range.RangeFault.{RangeFault}
use Rattle.argon_text.specs.declared.range.RangeFault.TheVariants as fault

-- six tests, in the order of the faults
all_hold : (version passes lanes memory tag salt : Bool)
    → (if not version then Some fault.Version
    else if not passes then Some fault.Passes
    else if not lanes then Some fault.Lanes
    else if not memory then Some fault.Memory
    else if not tag then Some fault.TagLength
    else if not salt then Some fault.SaltLength
    else None) ≡ None
    → (version && passes && lanes && memory && salt && tag) ≡ true
all_hold true true true true true true none = refl
all_hold true true true true true false none = absurd (cc)
all_hold true true true true false salt none = absurd (cc)
all_hold true true true false tag salt none = absurd (cc)
all_hold true true false memory tag salt none = absurd (cc)
all_hold true false lanes memory tag salt none = absurd (cc)
all_hold false passes lanes memory tag salt none = absurd (cc)

pub in_range_of_none : (v : Value) → first_encoded_range_fault v ≡ None → is_in_range v ≡ true
in_range_of_none v none =
    all_hold (is_version v.version) (is_between 1 v.passes (2 ^ 32 - 1)) (is_between 1 v.lanes (2 ^ 24 - 1))
    (is_between (8 * v.lanes) v.memory (2 ^ 32 - 1)) (is_between 4 (length v.tag) 4096) (is_between 8 (length v.salt) 255) none

-- ---- capped numbers

-- below 2^32, or not
sized : (n : ℕ) → (n < 2 ^ 32) ⊎ (2 ^ 32 ≤ n)
sized n = elim (leb_tells (2 ^ 32) n) [ inl great ↦ inr great.1 | inr small ↦ inl small.1 ]

same_version : (c n : ℕ) → IsCapped c n → is_version c ≡ is_version n
same_version c n is = elim (sized n) [ inl small ↦ rw (is.value small) refl | inr great ↦ rw (is.great great) (grind (arith, common_steps)) ]

same_between : (low c n high : ℕ) → high < 2 ^ 32 → IsCapped c n → is_between low c high ≡ is_between low n high
same_between low c n high below is =
    elim (sized n) [ inl small ↦ rw (is.value small) refl | inr great ↦ rw (is.great great) (grind (arith, common_steps)) ]

same_memory : (lanes memory c n : ℕ) → IsCapped lanes c → IsCapped memory n
    → is_between (8 * lanes) memory (2 ^ 32 - 1) ≡ is_between (8 * c) n (2 ^ 32 - 1)
same_memory lanes memory c n of_lanes of_memory =
    elim (sized n) [
      | inl small ↦ elim (sized c) [
        | inl few ↦ rw (of_memory.value small, of_lanes.value few) refl
        | inr many ↦ rw (of_memory.value small, of_lanes.great many) (grind (arith, common_steps))
      ]
      | inr great ↦ rw (of_memory.great great) (grind (arith, common_steps))
    ]

pub first_of_capped : (version passes lanes memory v p l m tag_len salt_len : ℕ) → IsCapped version v → IsCapped passes p → IsCapped lanes l
    → IsCapped memory m → first_field_range_fault version passes lanes memory tag_len salt_len ≡ first_field_range_fault v p l m tag_len salt_len
first_of_capped version passes lanes memory v p l m tag_len salt_len of_version of_passes of_lanes of_memory =
    rw (
      same_version version v of_version,
      same_between 1 passes p (2 ^ 32 - 1) (lit< tt) of_passes,
      same_between 1 lanes l (2 ^ 24 - 1) (lit< tt) of_lanes,
      same_memory lanes memory l m of_lanes of_memory,
    ) refl

-- ---- what is told of a value that is not in range

pub some_out : (v : Value) (told : Option RangeFault) → told ≡ first_encoded_range_fault v → (is_in_range v ≡ true → ⊥) → IsSome told
some_out v None told outside = absurd (outside (in_range_of_none v (sym told)))
some_out v (Some found) told outside = refl
