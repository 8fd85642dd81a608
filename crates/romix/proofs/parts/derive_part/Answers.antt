use Rattle.std.proofs.Common.{◌≡◌, ℕ, ◌+◌, ◌*◌, ◌/◌, length, arith, ap, sym, ◌∙◌, length-take, length-drop}
use Rattle.macs.specs.Pbkdf2.{pbkdf2, pbkdf2_block}
use Rattle.std.proofs.lemmas.Slice.{take-put_mid}
use Rattle.romix.specs.Scrypt.{part_at, words_of}
use Rattle.romix.proofs.Octets.{words_read}
use Rattle.romix.proofs.PartBlocks.{part-block, words_more}
use Rattle.romix.proofs.parts.derive_part.Goals as goal

pub loop-i-preserved : goal.loop-i-preserved
loop-i-preserved c password salt held p h =
    let r : ℕ = length c.args.row.now / 32 in
    let k : ℕ = c.args.k in
    let i : ℕ = c.loop-i.i in
    let count : length c.args.row.now / 8 * k ≡ 4 * r * k = ap (λ (m : ℕ). m * k) (let each : length c.args.row.now / 8 ≡ 4 * r = omega arith in each) in
    let wide : length c.read_u32_into.new.dst ≡ 8 = omega (arith, length-take {A = ℕ}, length-drop {A = ℕ}) in
    words_more (part_at (pbkdf2 password salt (128 * r * p)) r k) c.block-block.result c.loop-i.row c.read_u32_into.new.dst _ i (omega arith) wide
    (take-put_mid (8 * i) _ c.loop-i.row c.read_u32_into.new.dst (8 * (i + 1)) (omega arith) (omega arith))
    (c.block-block.ensures.block password salt held ∙ ap (pbkdf2_block password salt) (omega (arith, count)) ∙ sym (part-block password salt r k p i h (omega arith)))
    c.read_u32_into.ensures (c.loop-i.invariant password salt held p h)

pub returns : goal.returns
returns c = record {
  part = λ password salt held p h.
      let long : length c.loop-i.row ≡ length c.args.row.now = omega arith in
      words_read _ c.loop-i.row (λ j l. c.loop-i.invariant password salt held p h j (omega arith)) ∙ ap (words_of _) long;
}
