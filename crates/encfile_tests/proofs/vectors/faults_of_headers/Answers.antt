use Rattle.std.proofs.Common.{refl}
use Rattle.sha2.specs.Sha256.{compress, digest_bytes, first_words, hash_after, rounds, schedule, sha256}
use Rattle.encfile.specs.Header.{header}
use Rattle.encfile_tests.proofs.vectors.faults_of_headers.Goals as goal

pub returns : goal.returns
unfolding first_words schedule rounds compress hash_after digest_bytes sha256 header
returns c = record {
  none = refl;
  magic = refl;
  magic_first = refl;
  version = refl;
  checksum = refl;
  end_of_checksum = refl;
  log_n = refl;
  zero = refl;
  product = refl;
}
