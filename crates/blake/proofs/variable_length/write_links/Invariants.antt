use Rattle.std.proofs.Common.{◌≡◌, ◌-◌, ◌*◌, ◌++◌, length, take}
use Rattle.blake.specs.LongHash.{links}
use Rattle.blake.proofs.variable_length.write_links.Given as goal

abbrev pub invariant-links : goal.invariant-links
invariant-links l =
    (length l.out ≡ length l.fn.out)
    × (take (32 * l.i) l.out ++ links (length l.fn.out - 32 * l.count) (l.count - 1 - l.i) l.v
    ≡ links (length l.fn.out - 32 * l.count) (l.count - 1) l.first)
