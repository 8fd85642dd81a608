use Rattle.std.proofs.Common.{◌*◌, add-zero, refl}
use Rattle.aes_ctr.specs.Planes.{round_key}
use Rattle.aes_ctr.proofs.add_round_key.round_key.Goals as goal

pub returns : goal.returns
unfolding round_key
returns c = record { key = rw (add-zero (4 * c.args.round)) refl }
