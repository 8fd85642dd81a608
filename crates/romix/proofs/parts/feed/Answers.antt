use Rattle.std.proofs.Common.{◌≡◌, ℕ, List, ◌+◌, ◌*◌, ◌-◌, ◌++◌, take, drop, arith, refl, ap, subst, ◌∙◌, append-nil}
use Rattle.std.proofs.lemmas.List.{append_assoc}
use Rattle.macs.specs.KeyPair.{Pbkdf2HasPasswordAndSalt}
use Rattle.romix.specs.Scrypt.{octets_of}
use Rattle.romix.proofs.PartBlocks.{octets_more}
use Rattle.romix.proofs.parts.feed.Goals as goal

pub loop-i-init : goal.loop-i-init
loop-i-init c = record { fed = λ password salt held. rw (append-nil salt) held; long = refl }

pub loop-i-preserved : goal.loop-i-preserved
loop-i-preserved c =
    let i : ℕ = c.loop-i.i in
    let row : List ℕ = c.args.row.now in
    let front : List ℕ = octets_of (take (16 * i) row) in
    let one : 16 * i + 16 - 16 * i ≡ 16 = omega arith in
    let made = c.write_u32_into.ensures ∙ ap (λ (n : ℕ). octets_of (take n (drop (16 * i) row))) one in
    record {
      fed = λ password salt held.
          subst (λ (t : List ℕ). Pbkdf2HasPasswordAndSalt c.update.new.self password t)
          (append_assoc salt front c.write_u32_into.new.dst ∙ ap (λ (t : List ℕ). salt ++ t) (octets_more row c.write_u32_into.new.dst i (omega arith) made))
          (c.update.ensures.appended password _ (c.loop-i.invariant.fed password salt held));
      long = omega arith;
    }
