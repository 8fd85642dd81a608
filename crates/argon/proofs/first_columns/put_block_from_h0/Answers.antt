use Rattle.std.proofs.Common.{List, ℕ, ap, arith, ◌∙◌}
use Rattle.byteorder.specs.Endian.{little_bytes}
use Rattle.blake.specs.Words.{words}
use Rattle.blake.specs.LongHash.{long_hash}
use Rattle.blake.proofs.Words.{words_read}
use Rattle.argon.specs.Argon2.{block_from_h0}
use Rattle.argon.proofs.FirstColumns.{three_joined}
use Rattle.argon.proofs.first_columns.put_block_from_h0.Goals as goal

pub returns : goal.returns
unfolding block_from_h0
returns c = record {
  value = words_read 128 c.long_hash.new.out c.read_u64_into.new.dst (omega arith) c.read_u64_into.ensures
      ∙ rw (c.long_hash.ensures.hash, c.write_u32.ensures, c.write_u32-2.ensures)
      (ap (λ (m : List ℕ). words 128 (long_hash 1024 m)) (three_joined c.args.h0.now (little_bytes 4 c.args.column) (little_bytes 4 c.args.lane)));
}
