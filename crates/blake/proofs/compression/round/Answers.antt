use Rattle.std.proofs.Common.{refl}
use Rattle.blake.specs.Blake2b.{vector_after_mixings}
use Rattle.blake.proofs.compression.round.Goals as goal

pub returns : goal.returns
unfolding vector_after_mixings
returns c =
    record {
      mixed = rw (
        c.mix-8.ensures.mixed,
        c.mix-7.ensures.mixed,
        c.mix-6.ensures.mixed,
        c.mix-5.ensures.mixed,
        c.mix-4.ensures.mixed,
        c.mix-3.ensures.mixed,
        c.mix-2.ensures.mixed,
        c.mix.ensures.mixed,
      ) refl;
    }
