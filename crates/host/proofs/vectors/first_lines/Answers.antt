use Rattle.std.proofs.Common.{refl}
use Rattle.host.proofs.vectors.first_lines.Goals as goal

pub returns : goal.returns
returns c = record {
  line_feed = refl;
  carriage_return = refl;
  no_end = refl;
  empty = refl;
  nothing = refl;
}
