-- The blocks of a segment with independent addressing, by the planned places.
use Rattle.std.proofs.Common.{◌≡◌, ℕ, ◌+◌, ◌-◌, ◌*◌, ◌<◌, ◌≤◌, Bool, true, List, refl, ap, ◌∙◌}
use Rattle.argon.specs.Argon2.{block_at, stored_block_by_j1_j2, matrix_block}
use Rattle.argon.specs.Counts.{first_index}
use Rattle.argon.specs.Parameters.{Parameters, lane_len, segment_len}
use Rattle.argon.specs.Plan.{IsMadeAsPlanned, independent_reference_word}
use Rattle.argon.specs.Reference.{is_independent, reference_words, j1_j2_by_addressing}
use Rattle.argon.proofs.MatrixBlocks.{IsPlace, block_is_next}
use Rattle.argon.proofs.ColumnBlock.{first_two}
use Rattle.argon.proofs.Progress.{two_below}

pub word_is : (c : Parameters) (pass lane slice index : ℕ) (previous : List ℕ) → is_independent c pass slice ≡ true
    → reference_words c pass lane slice index previous ≡ independent_reference_word c pass lane slice index
unfolding reference_words
word_is c pass lane slice index previous e = ap (λ (b : Bool). j1_j2_by_addressing b c pass lane slice index previous) e

-- each block is G of the previous one and of the one at the planned place, the old one xored in
pub made_as_planned : (c : Parameters) (h0 : List ℕ) (pass lane slice index : ℕ) → 2 ≤ segment_len c → slice < 4 → lane < c.lanes
    → is_independent c pass slice ≡ true → first_index pass slice ≤ index → index < segment_len c
    → IsMadeAsPlanned c h0 pass lane slice index
unfolding block_at
made_as_planned c h0 pass lane slice index hs hl hlane free first hi =
    let n : ℕ = pass * lane_len c + (slice * segment_len c + index) in
    let p : IsPlace c n pass slice index = record { number = refl; slices = hl; indices = hi } in
    block_is_next c h0 n lane pass slice index p hs (two_below (segment_len c) pass slice index hs (first_two pass slice index first)) hlane
    ∙ ap (stored_block_by_j1_j2 c (matrix_block c h0) n pass lane slice index) (word_is c pass lane slice index (matrix_block c h0 (n - 1) lane) free)
