use Rattle.aes_ctr.proofs.Swapped.{merged_lower_bits-bytes, merged_lower_bits-chosen}
use Rattle.aes_ctr.proofs.transposition.merged_lower_bits.Goals as goal

pub returns : goal.returns
returns c = record {
  merged = record {
    taken = merged_lower_bits-chosen c.args.distance c.args.low c.args.first c.args.second c.fits-first c.fits-second;
    pairs = merged_lower_bits-bytes c.args.distance c.args.low c.ranges.low.fits c.args.first c.args.second c.fits-first c.fits-second;
  };
}
