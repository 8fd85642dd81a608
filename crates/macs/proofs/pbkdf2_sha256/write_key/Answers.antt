use Rattle.std.proofs.Common.{◌≡◌, ℕ, ◌+◌, ◌*◌, ◌/◌, length, min, take, arith, refl, ◌∙◌}
use Rattle.std.proofs.lemmas.List.{take_all, length-drop, length-take}
use Rattle.std.proofs.lemmas.Slice.{take-put_mid}
use Rattle.macs.specs.Pbkdf2.{pbkdf2}
use Rattle.macs.proofs.Blocks.{blocks_more}
use Rattle.macs.proofs.pbkdf2_sha256.write_key.Goals as goal

pub loop-done-preserved : goal.loop-done-preserved
loop-done-preserved c password salt held =
    let len : ℕ = length c.args.out.now in
    let start : ℕ = 32 * c.loop-done.done in
    let n : ℕ = c.min-len.result in
    let filled : min start len ≡ start = omega arith in
    let more : min (32 * (c.loop-done.done + 1)) len ≡ start + n = omega arith in
    let wide : length c.copy_from_slice.new.self ≡ n = omega (arith, c.copy_from_slice.ensures.len, length-take {A = ℕ}, length-drop {A = ℕ}) in
    rw more
    (take-put_mid start _ c.loop-done.out c.copy_from_slice.new.self (start + n) (omega arith) (omega arith)
    ∙ rw (c.copy_from_slice.ensures.after, c.block_from_salted_hmac-block.ensures.block password salt held)
    (blocks_more _ _ _ c.loop-done.done start n refl (rw filled at c.loop-done.invariant password salt held)))

pub returns : goal.returns
unfolding pbkdf2
returns c =
    let n : ℕ = length c.args.out.now in
    let count : c.loop-done.done ≡ (n + 31) / 32 = omega arith in
    let filled : min (32 * c.loop-done.done) n ≡ n = omega arith in
    let whole : take n c.loop-done.out ≡ c.loop-done.out = take_all _ _ (omega arith) in
    record { key = λ password salt held. rw (filled, count, whole) at c.loop-done.invariant password salt held }
