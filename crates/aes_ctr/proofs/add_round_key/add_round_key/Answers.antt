use Rattle.std.proofs.Common.{◌∙◌, ap, bit_xor}
use lib.Lanes.{zip2}
use Rattle.aes_ctr.proofs.Sixteen.{xor-round_key}
use Rattle.aes_ctr.proofs.add_round_key.add_round_key.Goals as goal

pub returns : goal.returns
returns c = record {
  state = ap (zip2 bit_xor c.args.state) c.round_key.ensures.key ∙ xor-round_key c.args.words.now c.args.round c.args.state c.fits-state.0;
}
