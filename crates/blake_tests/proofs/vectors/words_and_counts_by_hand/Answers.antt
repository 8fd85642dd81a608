use Rattle.std.proofs.Common.{refl}
use Rattle.blake.specs.Words.{words}
use Rattle.blake_tests.proofs.vectors.words_and_counts_by_hand.Goals as goal

pub returns : goal.returns
unfolding words
returns c = record { two_words = refl; sum = refl; half_of_the_sum = refl; high_count = refl; fewer_words = refl }
