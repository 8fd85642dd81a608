use Rattle.std.proofs.Common.{refl}
use Rattle.blake.specs.Words.{words}
use Rattle.blake.specs.Blake2b.{mix, vector_after_mixings, rounds, state_xored_with_halves, compress, state_after, blake2b}
use Rattle.argon.specs.Argon2.{first_hash}
use Rattle.argon_tests.proofs.vectors.first_hash_of_the_standard.Goals as goal

pub returns : goal.returns
unfolding words mix vector_after_mixings rounds state_xored_with_halves compress state_after blake2b first_hash
returns c = record { hash = refl }
