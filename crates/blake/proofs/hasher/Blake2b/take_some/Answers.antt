use Rattle.std.proofs.Common.{◌≡◌, ℕ, ◌+◌, List, length, take, inl, inr, arith, refl}
use Rattle.std.proofs.lemmas.List.{length-take-le}
use Rattle.std.proofs.lemmas.Slice.{take-put_mid}
use Rattle.std.proofs.lemmas.Bool.{cases_lt}
use Rattle.blake.proofs.Absorbing.{holds_more, holds_next}
use Rattle.blake.proofs.hasher.Blake2b.take_some.Goals as goal

pub returns-clause-holds : goal.returns-clause-holds
returns-clause-holds c = λ n m held.
    let s = c.args.self.now in
    let used : ℕ = c.make_room-used.result in
    let count : ℕ = c.min-count.result in
    let d : List ℕ = take count c.args.bytes.now in
    let ld : length d ≡ count = length-take-le count c.args.bytes.now (omega arith) in
    let ys : c.copy_from_slice.new.self ≡ d = c.copy_from_slice.ensures.after in
    elim (cases_lt s.used 128) [
      | inr full ↦
          let taken = c.make_room-used.ensures.full (omega arith) in
          let empty : c.make_room-used.result ≡ 0 = omega (arith, c.make_room-used.ensures.used) in
          holds_next s _ d (omega arith) (omega arith) refl (omega arith) taken (omega (arith, empty)) (omega arith) (omega (arith, empty))
          (rw (ys, empty) (take-put_mid 0 _ s.buffer d (length d) (omega arith) (omega arith))) n m held
      | inl open' ↦
          let kept = c.make_room-used.ensures.open open' in
          let same : c.make_room-used.result ≡ c.args.self.now.used = omega (arith, c.make_room-used.ensures.used) in
          holds_more s _ d refl (omega arith) kept (omega (arith, same)) (omega arith) (omega (arith, same))
          (rw (ys, same) (take-put_mid s.used _ s.buffer d (s.used + length d) refl (omega arith))) n m held
    ]
