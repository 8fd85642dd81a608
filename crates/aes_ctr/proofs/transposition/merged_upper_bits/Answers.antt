use Rattle.aes_ctr.proofs.Swapped.{merged_upper_bits-bytes, merged_upper_bits-chosen}
use Rattle.aes_ctr.proofs.transposition.merged_upper_bits.Goals as goal

pub returns : goal.returns
returns c = record {
  merged = record {
    taken = merged_upper_bits-chosen c.args.distance c.args.low c.args.first c.args.second c.fits-first c.fits-second;
    pairs = merged_upper_bits-bytes c.args.distance c.args.low c.ranges.low.fits c.args.first c.args.second c.fits-first c.fits-second;
  };
}
