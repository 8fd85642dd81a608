use Rattle.std.proofs.Common.{◌≡◌, length, arith, true, false, nat_le}
use Rattle.std.proofs.lemmas.Bool.{le-leb, lt-leb}
use Rattle.blake.specs.LongHash.{long_hash}
use Rattle.blake.proofs.variable_length.long_hash.Goals as goal

pub returns-then-short : goal.returns-then-short
unfolding long_hash
returns-then-short c =
    let e : nat_le (length c.args.out.now) 64 ≡ true = le-leb (length c.args.out.now) 64 (omega arith) in
    record { hash = rw e c.write_blake2b_of_parts.ensures.hash }

pub returns-else-short : goal.returns-else-short
unfolding long_hash
returns-else-short c =
    let e : nat_le (length c.args.out.now) 64 ≡ false = lt-leb (length c.args.out.now) 64 (omega arith) in
    record { hash = rw (e, ← c.write_blake2b_of_parts-else-short.ensures.hash) c.write_links.ensures.links }
