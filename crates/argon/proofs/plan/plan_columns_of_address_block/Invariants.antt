use Rattle.std.proofs.Common.{◌≡◌, length}
use Rattle.argon.specs.Inside.Planning.{PlansPartOfReferences}
use Rattle.argon.proofs.plan.plan_columns_of_address_block.Given as goal

abbrev pub invariant-loop-index : goal.invariant-loop-index
invariant-loop-index l =
    (length l.out ≡ length l.fn.out) × PlansPartOfReferences l.segment l.addresses l.fn.out l.out l.from l.index
