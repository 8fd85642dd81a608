use Rattle.std.proofs.Common.{refl}
use Rattle.blake.specs.Words.{words}
use Rattle.blake.specs.Blake2b.{mix, vector_after_mixings, rounds, state_xored_with_halves, compress, state_after, blake2b}
use Rattle.blake_tests.proofs.vectors.blake2b_hashes.Goals as goal

pub returns : goal.returns
unfolding words mix vector_after_mixings rounds state_xored_with_halves compress state_after blake2b
returns c = record {
  of_abc = refl;
  of_nothing = refl;
  of_a_block = refl;
  of_two_blocks = refl;
  of_a_counting_block = refl;
  of_two_counting_blocks = refl;
}
