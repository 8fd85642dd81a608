use Rattle.std.proofs.Common.{◌≡◌, length, map, ℕ, arith, sym, ◌∙◌, bit_xor}
use Rattle.std.proofs.lemmas.List.{ext_get_or, get_or-map, length-map}
use Rattle.macs.proofs.hmac.xored_with_byte.Goals as goal

pub returns : goal.returns
returns c =
    let f : ℕ → ℕ = λ b. bit_xor b c.args.byte in
    let long : length c.args.block.now ≡ 64 = omega arith in
    let same : length c.loop-i.xored ≡ length (map f c.args.block.now) = omega (arith, length-map c.args.block.now f, c.loop-i.invariant.0) in
    record {
      bytes = ext_get_or 0 _ _ same (λ k h. c.loop-i.invariant.1 k (omega arith) ∙ sym (get_or-map f c.args.block.now k 0 0 (omega arith)));
    }
