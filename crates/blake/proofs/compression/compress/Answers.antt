use Rattle.std.proofs.Common.{◌≡◌, refl, ◌∙◌, arith, add-one, ℕ, ◌%◌, ◌<◌, true, List, [], length, get_or, slice_index, nat_lt}
use Rattle.std.specs.List.{list_all}
use Rattle.std.proofs.lemmas.List.Sums.{AllPass-from_list_all}
use Rattle.std.proofs.lemmas.List.Elements.{All-get_or}
use Rattle.std.proofs.lemmas.Bool.{ltb-true}
use Rattle.blake.specs.Blake2b.{rounds, compress, sigma}
use Rattle.blake.proofs.Words.{words_read}
use Rattle.blake.proofs.compression.compress.Goals as goal

-- no row names a place past the sixteenth
rows_small : list_all (λ row. list_all (λ k. nat_lt k 16) row) sigma ≡ true
rows_small = refl

-- the same at any place of any row
sigma_small : (i k : ℕ) → k < length (get_or sigma (i % 10) []) → slice_index (get_or sigma (i % 10) []) k < 16
sigma_small i k h =
    let row = All-get_or (λ (row : List ℕ). list_all (λ k. nat_lt k 16) row ≡ true) sigma (i % 10) [] (omega arith)
    (AllPass-from_list_all (λ (row : List ℕ). list_all (λ k. nat_lt k 16) row) sigma rows_small) in
    ltb-true _ _ (All-get_or (λ (x : ℕ). nat_lt x 16 ≡ true) (get_or sigma (i % 10) []) k 0 h
    (AllPass-from_list_all (λ (x : ℕ). nat_lt x 16) (get_or sigma (i % 10) []) row))

pub loop-i-init : goal.loop-i-init
unfolding rounds
loop-i-init c = (omega arith, c.work_vector-vector.ensures.vector)

pub round-requires : goal.round-requires
round-requires c = record { places = sigma_small c.loop-i.i }

pub loop-i-preserved : goal.loop-i-preserved
unfolding rounds
loop-i-preserved c =
    let m = words_read 16 c.args.block.now c.read_u64_into.new.dst (omega arith) c.read_u64_into.ensures in
    (omega arith, c.round.ensures.mixed ∙ rw (m, c.loop-i.invariant.1, add-one) refl)

pub returns : goal.returns
unfolding compress
returns c =
    let twelve : c.loop-i.i ≡ 12 = omega arith in
    record { state = c.xor_halves_into_state.ensures.state ∙ rw (c.loop-i.invariant.1, twelve) refl }
