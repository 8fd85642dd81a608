use Rattle.std.proofs.Common.{◌≡◌, true}
use Rattle.argon_tests.proofs.tests.orders.hash_by.Given as goal

abbrev pub invariant-loop : goal.invariant-loop
invariant-loop l =
    (l.matrix.parameters ≡ l.params) × (l.matrix.is_started ≡ true)
    × (l.matrix.slices_made ≡ l.counter) × (l.lanes ≡ l.params)
