use Rattle.std.proofs.Common.{◌≡◌, ℕ, ◌+◌, ◌-◌, ◌<◌, ◌≤◌, ◌^◌, List, ◌++◌, length, take, drop, arith, refl, ap, sym, ◌∙◌, subst, append_assoc, length-append, length-take}
use Rattle.std.proofs.lemmas.List.{drop-drop, take_at}
use Rattle.std.proofs.lemmas.Slice.{drop-append-drop}
use Rattle.macs.specs.Hmac.{Holds}
use Rattle.aes_ctr.specs.CounterMode.{KeyStreamPlace}
use Rattle.encfile.specs.Decrypting.{IsSplit}
use Rattle.encfile.specs.EncryptedFile.{cipher_key, hmac_key, head, released_text}
use Rattle.encfile.proofs.Pieces.{after_made, place-more}
use Rattle.encfile.proofs.Reading.{FitsSha256-take, IsSplit-more, held_bytes-split, length-split, released_text-more}
use Rattle.encfile.proofs.dec.Dec.feed.Goals as goal

pub returns-then-piece-saturating_sub-clause-too_long : goal.returns-then-piece-saturating_sub-clause-too_long
returns-then-piece-saturating_sub-clause-too_long c = λ passphrase file h.
    let long = length-split file passphrase h.salt h.costs h.done h.held h.split in
    omega (arith, long, h.below_limit, ap (λ (p : KeyStreamPlace). p.position) h.state.cipher, ap length h.state.held, c.position.ensures.position, c.len.ensures.len, c.saturating_add-rest.ensures, c.saturating_sub.ensures, c.if-piece-saturating_sub.true)

pub returns-clause-takes : goal.returns-clause-takes
returns-clause-takes c = λ passphrase file h.
    let piece : List ℕ = c.args.piece.now in
    let n : ℕ = c.take_in-released.result in
    let out : List ℕ = c.take_in-released.new.out in
    let old : List ℕ = c.args.out.now in
    let before : List ℕ = c.args.self.now.held in
    let last : List ℕ = c.take_in-released.new.self in
    let moved : List ℕ = take n out in
    let few : length before ≤ 32 = omega (arith, c.len.ensures.len, c.len.ensures.at_most_32) in
    let moves : length moved ≡ n =
    omega (arith, length-take n out, c.take_in-released.ensures.moved, c.take_in-released.auto.out, c.requires.room, few) in
    let long : length c.apply.new.bytes ≡ n = omega (arith, c.apply.auto.bytes, moves) in
    let split = length-split file passphrase h.salt h.costs h.done h.held h.split in
    let below : length file + length piece < 2 ^ 60 + 128 =
    omega (arith, split, ap (λ (p : KeyStreamPlace). p.position) h.state.cipher, ap length h.state.held, c.position.ensures.position, c.len.ensures.len, c.saturating_add-rest.ensures, c.saturating_sub.ensures, c.if-piece-saturating_sub.false) in
    let joined = c.take_in-released.ensures.joined ∙ ap (λ held. held ++ piece) h.state.held in
    let count : length moved ≡ length h.held + length piece - 32 = omega (arith, moves, c.take_in-released.ensures.moved, ap length h.state.held) in
    let more : IsSplit (file ++ piece) passphrase h.salt h.costs (h.done ++ moved) last =
    IsSplit-more file passphrase h.salt h.costs h.done h.held piece moved last h.split joined count c.take_in-released.ensures.at_most_32 in
    let all : n + length last ≡ length before + length piece =
    omega (arith, ap length c.take_in-released.ensures.joined, length-append moved last, length-append before piece, moves) in
    let front : List ℕ = head passphrase h.salt h.costs in
    record {
      read = record {
        salt = h.salt;
        costs = h.costs;
        done = h.done ++ moved;
        held = last;
        state = record {
          cipher = place-more (cipher_key passphrase h.salt h.costs) h.done moved c.args.self.now.ctr c.apply.new.self h.state.cipher c.apply.ensures.applied.key c.apply.ensures.applied.position;
          held = refl;
          code = subst (Holds c.update.new.self (hmac_key passphrase h.salt h.costs)) (append_assoc front h.done moved)
              (c.update.ensures.appended _ _ h.state.code);
        };
        split = more;
        below_limit = omega (arith, below, length-append file piece);
      };
      released = ap (λ t. released_text file passphrase ++ t) (take_at c.apply.new.bytes (drop n out) n long)
          ∙ released_text-more file (file ++ piece) passphrase h.salt h.costs h.done h.held moved last c.apply.new.bytes c.args.self.now.ctr h.split
          more h.state.cipher c.apply.ensures.applied.xored;
      held = after_made n (length before + length piece) old out c.apply.new.bytes last long moves
          (c.take_in-released.ensures.put ∙ sym c.take_in-released.ensures.joined) c.take_in-released.ensures.rest all
          ∙ ap (λ (l : List ℕ). l ++ drop (n + length l) old) (sym (held_bytes-split (file ++ piece) passphrase h.salt h.costs (h.done ++ moved) last more));
      fits = below;
      hashed = FitsSha256-take _ (file ++ piece) (omega (arith, below));
    }

pub returns-clause-rest : goal.returns-clause-rest
returns-clause-rest c =
    let piece : List ℕ = c.args.piece.now in
    let n : ℕ = c.take_in-released.result in
    let out : List ℕ = c.take_in-released.new.out in
    let before : ℕ = length c.args.self.now.held + length piece in
    let most : ℕ = length piece + 32 in
    let few : length c.args.self.now.held ≤ 32 = omega (arith, c.len.ensures.len, c.len.ensures.at_most_32) in
    let whole : before + (most - before) ≡ most = omega (arith, few) in
    let long : length c.apply.new.bytes ≡ n =
    omega (arith, length-take n out, c.apply.auto.bytes, c.take_in-released.ensures.moved, c.take_in-released.auto.out, c.requires.room, few) in
    drop-append-drop n out c.apply.new.bytes most (omega (arith, c.take_in-released.ensures.moved, few)) long
    ∙ ap (λ i. drop i out) (sym whole) ∙ sym (drop-drop (most - before) before out)
    ∙ ap (drop (most - before)) c.take_in-released.ensures.rest
    ∙ drop-drop (most - before) before c.args.out.now ∙ ap (λ i. drop i c.args.out.now) whole
