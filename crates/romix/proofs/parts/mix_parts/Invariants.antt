use Rattle.std.proofs.Common.{◌≡◌, ◌+◌, ◌*◌, ◌^◌}
use Rattle.macs.specs.KeyPair.{Pbkdf2HasPasswordAndSalt}
use Rattle.macs.specs.Pbkdf2.{pbkdf2}
use Rattle.romix.specs.Costs.{parts_bytes}
use Rattle.romix.specs.Scrypt.{parts_after_romix}
use Rattle.romix.specs.Sparse.{block_mix_count_of_parts}
use Rattle.romix.proofs.parts.mix_parts.Given as goal

abbrev pub invariant-parts : goal.invariant-parts
invariant-parts l = record {
  fed : Pbkdf2HasPasswordAndSalt l.pair l.password
      (parts_after_romix (pbkdf2 l.password l.salt (parts_bytes l.sparse.costs)) (2 ^ l.sparse.costs.log_n) l.sparse.costs.r l.k);
  count : l.ticks ≡ l.fn.ticks
      + 2 * l.sparse.costs.r * block_mix_count_of_parts (pbkdf2 l.password l.salt (parts_bytes l.sparse.costs)) l.sparse l.k;
}
