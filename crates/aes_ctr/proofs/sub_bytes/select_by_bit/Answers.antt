use Rattle.aes_ctr.proofs.Lookup.{sel_l-choice}
use Rattle.aes_ctr.proofs.sub_bytes.select_by_bit.Goals as goal

pub returns : goal.returns
returns c = record {
  choice =
      λ f g set clear. sel_l-choice c.args.bit f g c.args.bytes c.args.set c.args.clear c.fits-bytes.0 set clear;
}
