use Rattle.aes_ctr.proofs.Swapped.{transposed}
use Rattle.aes_ctr.proofs.transposition.transposed.Goals as goal

pub returns : goal.returns
returns c = record {
  transposed =
      transposed c.args.planes c.exchanged.result c.exchanged-2.result c.exchanged-3.result
      c.exchanged.ensures.exchanged c.exchanged-2.ensures.exchanged c.exchanged-3.ensures.exchanged;
  bytes = λ k h. ((c.exchanged.ensures.bytes k h).0, (c.exchanged-3.ensures.bytes k h).1);
}
