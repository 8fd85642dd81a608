use Rattle.std.proofs.Common.{refl}
use Rattle.blake.specs.Blake2b.{mix}
use Rattle.blake.proofs.compression.mix.Goals as goal

pub returns : goal.returns
unfolding mix
returns c =
    record { mixed = rw (c.rotate_right-whole_b.ensures, c.rotate_right-whole_d.ensures, c.rotate_right-half_b.ensures, c.rotate_right-half_d.ensures) refl }
