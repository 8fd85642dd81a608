use Rattle.std.proofs.Common.{List, ℕ, arith, bit_xor, sym, take, ◌≡◌, ◌∙◌}
use lib.Lanes.{zip2}
use Rattle.std.proofs.lemmas.List.{take_all}
use Rattle.std.proofs.lemmas.Simd.{length-zip2, put_chunk_whole}
use Rattle.aes_ctr.proofs.key_stream.xor_into.Goals as goal

pub returns : goal.returns
returns g c =
    let bytes : List ℕ = c.args.bytes.now in
    let whole : take g.row.N bytes ≡ bytes = take_all g.row.N bytes (omega (arith, c.requires.as_long)) in
    record { xored = rw whole (put_chunk_whole bytes (zip2 bit_xor bytes c.args.stream) (sym (length-zip2 bit_xor bytes c.args.stream (c.requires.as_long ∙ sym c.fits-stream.0)))) }
