use Rattle.std.proofs.Common.{◌≡◌, ℕ, ◌+◌, ◌*◌, ◌<◌, [], get_or, length}
use Rattle.argon.specs.Counts.{address_work}
use Rattle.argon.specs.Reference.{HasAddresses, is_independent}
use Rattle.argon.proofs.weave.prepare_lane_addresses.Given as goal

abbrev pub invariant-loop-lane : goal.invariant-loop-lane
invariant-loop-lane l =
    (length l.addresses ≡ length l.fn.addresses)
    × (l.ticks ≡ l.fn.ticks + l.lane * address_work (is_independent l.params l.pass l.slice) 1)
    × ((lane : ℕ) → lane < l.lane → HasAddresses l.params l.pass lane l.slice 0 (get_or l.addresses lane []))
