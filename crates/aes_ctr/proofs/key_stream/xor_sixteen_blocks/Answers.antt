use Rattle.std.proofs.Common.{◌≡◌, ◌+◌, ◌-◌, ◌*◌, ◌≤◌, ℕ, List, arith, drop, length, take, ◌∙◌}
use Rattle.std.proofs.lemmas.List.{length-drop, length-take-le}
use Rattle.aes_ctr.proofs.KeyStream.{IsXoredTo-all, IsXoredTo-none, IsXoredTo-put_mid, zip2-key_stream_blocks}
use Rattle.aes_ctr.proofs.key_stream.xor_sixteen_blocks.Goals as goal

pub loop-i-init : goal.loop-i-init
loop-i-init c = λ key planes. IsXoredTo-none key c.args.number c.args.bytes.now

pub loop-i-preserved : goal.loop-i-preserved
loop-i-preserved c =
    λ key planes.
    let i : ℕ = c.loop-i.i in
    let n : ℕ = c.args.number in
    let text : List ℕ = c.args.bytes.now in
    let width : 32 * i + 32 - 32 * i ≡ 32 = omega arith in
    let same : length c.loop-i.bytes ≡ length text = omega arith in
    let room : 32 * (i + 1) ≤ length text = omega (arith, c.requires.sixteen_blocks) in
    let long : length c.xor_into.new.bytes ≡ 32 = omega arith in
    let whole : length (take 32 (drop (32 * i) c.loop-i.bytes)) ≡ 32 =
    length-take-le 32 (drop (32 * i) c.loop-i.bytes) (omega (arith, length-drop (32 * i) c.loop-i.bytes, c.requires.sixteen_blocks)) in
    let block = c.sixteen_blocks-stream.ensures.stream key planes i (omega arith) in
    rw width (IsXoredTo-put_mid key n (16 * (n + 2 * i)) (32 * i) (32 * (i + 1)) 32 text c.loop-i.bytes c.xor_into.new.bytes
    (omega arith) room same long (omega arith) (c.loop-i.invariant key planes)
    ((rw (width, block) at c.xor_into.ensures.xored) ∙ zip2-key_stream_blocks key (n + 2 * i) (take 32 (drop (32 * i) c.loop-i.bytes)) whole))

pub returns : goal.returns
returns c = record {
  xored =
      λ key planes.
      let all : 32 * c.loop-i.i ≡ length c.args.bytes.now = omega (arith, c.requires.sixteen_blocks) in
      IsXoredTo-all key c.args.number (32 * c.loop-i.i) c.args.bytes.now c.loop-i.bytes all (omega arith) (c.loop-i.invariant key planes);
}
