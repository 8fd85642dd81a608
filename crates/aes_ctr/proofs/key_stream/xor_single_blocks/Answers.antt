use Rattle.std.proofs.Common.{◌≡◌, ◌+◌, ◌-◌, ◌*◌, ◌≤◌, ℕ, List, arith, length}
use Rattle.aes_ctr.proofs.KeyStream.{IsXoredTo-all, IsXoredTo-none, IsXoredTo-put_mid}
use Rattle.aes_ctr.proofs.key_stream.xor_single_blocks.Goals as goal

pub loop-i-init : goal.loop-i-init
loop-i-init c = IsXoredTo-none c.args.aes.now c.args.number c.args.bytes.now

pub loop-i-preserved : goal.loop-i-preserved
loop-i-preserved c =
    let i : ℕ = c.loop-i.i in
    let text : List ℕ = c.args.bytes.now in
    let width : 16 * i + 16 - 16 * i ≡ 16 = omega arith in
    let same : length c.loop-i.bytes ≡ length text = omega arith in
    let room : 16 * (i + 1) ≤ length text = omega arith in
    let long : length c.xor_one_block_with_key_stream.new.bytes ≡ 16 = omega arith in
    rw width (IsXoredTo-put_mid c.args.aes.now c.args.number (16 * (c.args.number + c.loop-i.i)) (16 * i) (16 * (i + 1)) 16 text c.loop-i.bytes c.xor_one_block_with_key_stream.new.bytes
    (omega arith) room same long (omega arith) c.loop-i.invariant (rw width at c.xor_one_block_with_key_stream.ensures.xored))

pub returns : goal.returns
returns c =
    let all : 16 * c.loop-i.i ≡ length c.args.bytes.now = omega (arith, c.requires.whole_blocks) in
    record {
      xored = IsXoredTo-all c.args.aes.now c.args.number (16 * c.loop-i.i) c.args.bytes.now c.loop-i.bytes all (omega arith) c.loop-i.invariant;
    }
