use Rattle.std.proofs.Common.{◌≡◌, ◌+◌, ◌-◌, ◌*◌, ◌≤◌, ℕ, List, arith, length}
use Rattle.aes_ctr.proofs.KeyStream.{IsXoredTo-all, IsXoredTo-none, IsXoredTo-put_mid}
use Rattle.aes_ctr.proofs.key_stream.xor_groups_of_sixteen.Goals as goal

pub loop-i-init : goal.loop-i-init
loop-i-init c = λ key planes. IsXoredTo-none key c.args.number c.args.bytes.now

pub loop-i-preserved : goal.loop-i-preserved
loop-i-preserved c =
    λ key planes.
    let i : ℕ = c.loop-i.i in
    let text : List ℕ = c.args.bytes.now in
    let width : 256 * i + 256 - 256 * i ≡ 256 = omega arith in
    let same : length c.loop-i.bytes ≡ length text = omega arith in
    let room : 256 * (i + 1) ≤ length text = omega arith in
    let long : length c.xor_sixteen_blocks.new.bytes ≡ 256 = omega arith in
    rw width (IsXoredTo-put_mid key c.args.number (16 * (c.args.number + 16 * c.loop-i.i)) (256 * i) (256 * (i + 1)) 256 text c.loop-i.bytes c.xor_sixteen_blocks.new.bytes
    (omega arith) room same long (omega arith) (c.loop-i.invariant key planes) (rw width at (c.xor_sixteen_blocks.ensures.xored key planes)))

pub returns : goal.returns
returns c =
    let all : 256 * c.loop-i.i ≡ length c.args.bytes.now = omega (arith, c.requires.whole_groups) in
    record {
      xored =
          λ key planes.
          IsXoredTo-all key c.args.number (256 * c.loop-i.i) c.args.bytes.now c.loop-i.bytes all (omega arith) (c.loop-i.invariant key planes);
    }
