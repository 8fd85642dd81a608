use Rattle.std.proofs.Common.{◌≡◌, ℕ, ◌+◌, List, [], length, take, length-append, arith, sym, ◌∙◌}
use Rattle.std.proofs.lemmas.List.Folds.{length-flat_map-take}
use Rattle.std.specs.Borrow.{Bor}
use Rattle.byteorder.specs.Endian.{little_bytes}
use Rattle.blake.specs.State.{hashed_message_len, Holds, hash_len}
use Rattle.blake.specs.LongHash.{joined}
use Rattle.blake.specs.declared.hasher.Blake2b.{Blake2b}
use Rattle.blake.proofs.variable_length.write_blake2b_of_parts.Goals as goal

-- the hash will have as many bytes as the relation says
hash_len-Holds : (n : ℕ) (s : Blake2b) (m : List ℕ) → Holds n s m → hash_len s ≡ n
unfolding Holds
hash_len-Holds n s m holds = holds.0

-- as many bytes were handed in as the message has
hashed_message_len-Holds : (n : ℕ) (s : Blake2b) (m : List ℕ) → Holds n s m → hashed_message_len s ≡ length m
unfolding Holds
hashed_message_len-Holds n s m holds = holds.1

pub update-requires-in-loop-part : goal.update-requires-in-loop-part
update-requires-in-loop-part c =
    let so_far : List ℕ = joined (take c.loop-part.part-index c.args.parts.now) in
    let count : hashed_message_len c.loop-part.hash ≡ 4 + length so_far =
    hashed_message_len-Holds _ _ _ c.loop-part.invariant ∙ length-append (little_bytes 4 c.args.number) so_far in
    let fits = length-flat_map-take (λ (p : Bor (List ℕ)). p.now) c.args.parts.now c.loop-part.part-index (record { ref_ptr = (0, 0); now = [] }) (omega arith) in
    record { fits = omega (arith, fits, count) }

pub finish-requires : goal.finish-requires
finish-requires c = record { hash_len = sym (hash_len-Holds _ _ _ c.loop-part.invariant) }
