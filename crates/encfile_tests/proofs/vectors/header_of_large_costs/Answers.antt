use Rattle.std.proofs.Common.{refl}
use Rattle.sha2.specs.Sha256.{compress, digest_bytes, first_words, hash_after, rounds, schedule, sha256}
use Rattle.encfile.specs.Header.{header}
use Rattle.encfile_tests.proofs.vectors.header_of_large_costs.Goals as goal

pub returns : goal.returns
unfolding compress digest_bytes first_words hash_after rounds schedule sha256 header
returns c = record { bytes = refl; log_n = refl; r = refl; p = refl; salt = refl; with_keep = refl }
