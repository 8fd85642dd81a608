use Rattle.std.proofs.Common.{refl}
use Rattle.blake.specs.Words.{words}
use Rattle.blake.specs.Blake2b.{mix, vector_after_mixings, rounds, state_xored_with_halves, compress, state_after, blake2b}
use Rattle.blake.specs.LongHash.{links, long_hash}
use Rattle.blake_tests.proofs.vectors.long_hashes.Goals as goal

pub returns : goal.returns
unfolding words mix vector_after_mixings rounds state_xored_with_halves compress state_after blake2b links long_hash
returns c = record {
  of_32_bytes = refl;
  of_64_bytes = refl;
  of_65_bytes = refl;
  of_96_bytes = refl;
  of_97_bytes = refl;
  of_1024_bytes = refl;
}
