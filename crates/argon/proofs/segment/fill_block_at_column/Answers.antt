use Rattle.std.proofs.Common.{◌+◌, ◌*◌, ◌∙◌, [], arith, get_or, refl}
use Rattle.argon.specs.Inside.Segment.{place_by_word}
use Rattle.argon.proofs.ColumnBlock.{above_zero, column_before, first_two, stored_is, words_are}
use Rattle.argon.proofs.segment.fill_block_at_column.Goals as goal

pub returns-clause-value : goal.returns-clause-value
returns-clause-value c = λ parameters is_of addresses.
    let at = c.args.segment.now in
    let blocks = c.args.blocks.now in
    let zero_first = above_zero (4 * at.len) at.len at.pass at.slice c.args.index c.requires.column.valid.long (omega (arith, c.requires.column.valid.long))
    (first_two at.pass at.slice c.args.index c.requires.column.first) in
    let word = words_are parameters at.pass at.lane at.slice c.args.index c.reference_word-j.result at.is_independent c.args.addresses.now
    (get_or blocks c.matrix_index_of_column-previous.result []) is_of.independent addresses
    c.reference_word-j.ensures.independent c.reference_word-j.ensures.dependent in
    let named = place_by_word at c.args.index c.reference_word-j.result in
    c.compute_and_store_block.ensures.value
    ∙ stored_is parameters at.lanes at.len is_of.lanes is_of.len blocks at.pass at.slice c.args.index at.lane c.previous_column-before.result
    c.reference_word-j.result named.lane named.column c.matrix_index_of_column-previous.result c.matrix_index_of_column-reference.result
    c.matrix_index_of_column-place.result at.is_xored c.matrix_index_of_column-previous.ensures.place.value
    (rw c.reference_place-named.ensures.value at c.matrix_index_of_column-reference.ensures.place.value) c.matrix_index_of_column-place.ensures.place.value
    is_of.xored c.requires.column.valid.slices c.requires.column.indices
    (column_before at.pass (4 * at.len) (at.slice * at.len + c.args.index) c.previous_column-before.result
    (omega (arith, c.requires.column.valid.long)) zero_first c.previous_column-before.ensures.value)
    word refl refl
