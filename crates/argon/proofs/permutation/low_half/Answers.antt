use Rattle.std.proofs.Common.{replicate, get_or, ap, ◌∙◌, arith}
use lib.Bits.{bit_and}
use Rattle.std.proofs.lemmas.Nat.{and_mask}
use Rattle.std.proofs.lemmas.Simd.{get_or-zip2, get_or-replicate}
use Rattle.argon.proofs.permutation.low_half.Goals as goal

pub returns : goal.returns
returns c = record {
  value = λ j h. get_or-zip2 bit_and c.args.words (replicate 16 4294967295) j 0 0 0 (omega arith) h
      ∙ (ap (bit_and (get_or c.args.words j 0)) (get_or-replicate 16 j 4294967295 0 h) ∙ and_mask (get_or c.args.words j 0) 32);
}
