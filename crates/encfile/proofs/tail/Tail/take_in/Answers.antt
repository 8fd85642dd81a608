use Rattle.std.proofs.Common.{◌≡◌, ℕ, ◌+◌, ◌-◌, ◌≤◌, List, ◌++◌, length, drop, arith, ap, sym, ◌∙◌, refl, length-take, length-append}
use Rattle.std.proofs.lemmas.List.{take_at}
use Rattle.std.proofs.lemmas.Slice.{drop-append-drop, drop-put_mid, take-put_mid}
use Rattle.encfile.proofs.Pieces.{cut_at}
use Rattle.encfile.proofs.tail.Tail.take_in.Goals as goal

pub returns-clause-joined : goal.returns-clause-joined
returns-clause-joined c =
    let s : ℕ = c.self.inside.len in
    let l : ℕ = s + length c.args.piece.now in
    let held : List ℕ = c.copy_from_slice.new.self in
    let out : List ℕ = held ++ drop s c.args.out.now in
    let long : length held ≡ s = omega (arith, c.copy_from_slice.ensures.len, length-take {A = ℕ}) in
    let same : held ≡ c.args.self.now = c.copy_from_slice.ensures.after ∙ c.self.view_is in
    let piece : c.copy_from_slice-2.new.self ≡ c.args.piece.now = c.copy_from_slice-2.ensures.after in
    let room : s ≤ length out = omega (arith, long, length-append held (drop s c.args.out.now)) in
    let first = take-put_mid s (l - s) out c.copy_from_slice-2.new.self l (omega (arith, ap length piece)) room in
    let wide : length c.copy_from_slice-3.new.self ≡ l - c.saturating_sub-moved.result =
    omega (arith, c.copy_from_slice-3.ensures.len, length-take {A = ℕ}, c.self.told, c.saturating_sub-moved.ensures) in
    cut_at c.args.self.now c.args.piece.now _ c.copy_from_slice-3.new.self _ c.saturating_sub-moved.result l
    (first ∙ rw (take_at held (drop s c.args.out.now) s long, same, piece) refl) wide c.copy_from_slice-3.ensures.after (omega (arith, c.saturating_sub-moved.ensures))

pub returns-clause-put : goal.returns-clause-put
returns-clause-put c =
    let s : ℕ = c.self.inside.len in
    let l : ℕ = s + length c.args.piece.now in
    let held : List ℕ = c.copy_from_slice.new.self in
    let out : List ℕ = held ++ drop s c.args.out.now in
    let long : length held ≡ s = omega (arith, c.copy_from_slice.ensures.len, length-take {A = ℕ}) in
    let same : held ≡ c.args.self.now = c.copy_from_slice.ensures.after ∙ c.self.view_is in
    let known : length c.args.self.now ≡ s = sym (ap length same) ∙ long in
    let piece : c.copy_from_slice-2.new.self ≡ c.args.piece.now = c.copy_from_slice-2.ensures.after in
    let room : s ≤ length out = omega (arith, long, length-append held (drop s c.args.out.now)) in
    let first = take-put_mid s (l - s) out c.copy_from_slice-2.new.self l (omega (arith, ap length piece)) room in
    rw known (first ∙ rw (take_at held (drop s c.args.out.now) s long, same, piece) refl)

pub returns-clause-rest : goal.returns-clause-rest
returns-clause-rest c =
    let s : ℕ = c.self.inside.len in
    let l : ℕ = s + length c.args.piece.now in
    let held : List ℕ = c.copy_from_slice.new.self in
    let out : List ℕ = held ++ drop s c.args.out.now in
    let long : length held ≡ s = omega (arith, c.copy_from_slice.ensures.len, length-take {A = ℕ}) in
    let known : length c.args.self.now ≡ s = sym (ap length (c.copy_from_slice.ensures.after ∙ c.self.view_is)) ∙ long in
    let piece : c.copy_from_slice-2.new.self ≡ c.args.piece.now = c.copy_from_slice-2.ensures.after in
    let room : s ≤ length out = omega (arith, long, length-append held (drop s c.args.out.now)) in
    let second = drop-put_mid s (l - s) out c.copy_from_slice-2.new.self l (omega arith) room (omega (arith, ap length piece)) in
    let first = drop-append-drop s c.args.out.now held l (omega arith) long in
    rw known (second ∙ first)
