use Rattle.std.proofs.Common.{◌*◌, arith}
use Rattle.argon.proofs.Buffer.{place-lt}
use Rattle.argon.proofs.segment.matrix_index_of_column.Goals as goal

pub returns : goal.returns
returns c =
    let at = c.args.segment.now in
    record {
      place = record {
        value = omega arith;
        within = place-lt at.lanes (4 * at.len) c.args.lane c.args.column c.requires.place.lanes c.requires.place.columns;
      };
    }
