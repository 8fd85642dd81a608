use Rattle.std.proofs.Common.{refl}
use Rattle.sha2.specs.Sha256.{compress, digest_bytes, first_words, hash_after, rounds, schedule, sha256}
use Rattle.encfile.specs.Header.{header}
use Rattle.encfile.specs.Front.{format_refusal, header_refusal, file_refusal_before_passphrase}
use Rattle.encfile_tests.proofs.vectors.refusals_of_fronts.Goals as goal

pub returns : goal.returns
unfolding first_words schedule rounds compress hash_after digest_bytes sha256 header header_refusal format_refusal file_refusal_before_passphrase
returns c = record {
  short = refl;
  magic = refl;
  version = refl;
  checksum = refl;
  zero = refl;
  memory = refl;
  work = refl;
  admitted = refl;
  greatest = refl;
  sparse = refl;
  sparse_memory = refl;
  sparse_work = refl;
  sparsest = refl;
  keep = refl;
}
