use Rattle.std.proofs.Common.{refl}
use Rattle.sha2.specs.Sha256.{compress, digest_bytes, first_words, hash_after, rounds, schedule, sha256}
use Rattle.pikhsen_c.proofs.vectors.limits_of_a_known_file.Goals as goal

pub returns : goal.returns
unfolding compress digest_bytes first_words hash_after rounds schedule sha256
returns c = record {
  front = refl;
  start = refl;
  short = refl;
  buffer = refl;
  short_start = refl;
  running = refl;
  header = refl;
  short_header = refl;
}
