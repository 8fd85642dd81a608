use Rattle.std.proofs.Common.{◌*◌, ◌+◌, arith}
use Rattle.std.proofs.lemmas.Simd.{take_more_put_chunk}
use Rattle.romix.specs.Inside.Lanes.{words_by_rows}
use Rattle.four_words.proofs.Runs.{drop_put, sixteen_written}
use Rattle.romix.proofs.lanes.Lanes.store.Goals as goal

pub returns-clause-front : goal.returns-clause-front
returns-clause-front c =
    let at = 16 * c.args.i in
    let x = c.args.self in
    rw (
      c.put_four-4.ensures.words,
      c.put_four-3.ensures.words,
      c.put_four-2.ensures.words,
      c.put_four.ensures.words,
      sixteen_written c.args.row.now x.first x.second x.third x.fourth at (omega arith),
    )
    (take_more_put_chunk at c.args.row.now (words_by_rows x) (16 * (c.args.i + 1)) (omega arith) (omega arith))

pub returns-clause-rest : goal.returns-clause-rest
returns-clause-rest c =
    let at = 16 * c.args.i in
    let x = c.args.self in
    rw (
      c.put_four-4.ensures.words,
      c.put_four-3.ensures.words,
      c.put_four-2.ensures.words,
      c.put_four.ensures.words,
      sixteen_written c.args.row.now x.first x.second x.third x.fourth at (omega arith),
    )
    (drop_put c.args.row.now (words_by_rows x) at (16 * (c.args.i + 1)) (omega arith))
